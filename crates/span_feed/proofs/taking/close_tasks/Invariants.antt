use Rattle.std.proofs.Common.{◌≡◌, ◌++◌, map}
use Rattle.event_lines.specs.Shown.{task_track_shown}
use Rattle.span_feed.specs.Lane.{track_to}
use Rattle.span_feed.proofs.taking.close_tasks.Given as goal

-- those so far, and those that are left
abbrev pub invariant-loop-lane : goal.invariant-loop-lane
invariant-loop-lane l = map task_track_shown l.tracks.items ++ map (track_to l.over) l.lane-iterator.rest.items ≡ map (track_to l.over) l.fn.lanes.items
