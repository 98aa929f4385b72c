use Rattle.std.proofs.Common.{◌≡◌, ◌++◌, map, flat_map}
use Rattle.event_lines.specs.inside.Commas.{with_commas}
use Rattle.event_lines.specs.Shown.{group_tracks_shown}
use Rattle.event_lines.specs.TrackEvents.{some_group, tracks_events}
use Rattle.event_lines.proofs.groups.put_groups.Given as goal

-- the events of the tracks so far were written
abbrev pub invariant-loop-tracks : goal.invariant-loop-tracks
invariant-loop-tracks l = l.text ≡ l.fn.text ++ with_commas (flat_map (tracks_events (some_group l.set)) (map group_tracks_shown l.yielded))
