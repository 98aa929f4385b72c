use Rattle.std.proofs.Common.{◌≡◌, ◌++◌, map, flat_map}
use Rattle.event_lines.specs.inside.Commas.{with_commas}
use Rattle.event_lines.specs.Shown.{task_track_shown}
use Rattle.event_lines.specs.TrackEvents.{some_group, task_events}
use Rattle.event_lines.proofs.groups.put_tasks.Given as goal

-- the events of the tracks so far were written
abbrev pub invariant-loop-track : goal.invariant-loop-track
invariant-loop-track l = l.text ≡ l.fn.text ++ with_commas (flat_map (task_events (some_group l.set) l.process) (map task_track_shown l.yielded))
