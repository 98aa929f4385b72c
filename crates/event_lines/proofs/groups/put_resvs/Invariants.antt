use Rattle.std.proofs.Common.{◌≡◌, ◌++◌, map, flat_map}
use Rattle.event_lines.specs.inside.Commas.{with_commas}
use Rattle.event_lines.specs.Shown.{resv_track_shown}
use Rattle.event_lines.specs.TrackEvents.{resv_events, some_group}
use Rattle.event_lines.proofs.groups.put_resvs.Given as goal

-- the events of the tracks so far were written
abbrev pub invariant-loop-track : goal.invariant-loop-track
invariant-loop-track l = l.text ≡ l.fn.text ++ with_commas (flat_map (resv_events (some_group l.set) l.process) (map resv_track_shown l.yielded))
