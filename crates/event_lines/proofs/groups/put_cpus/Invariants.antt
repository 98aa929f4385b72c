use Rattle.std.proofs.Common.{◌≡◌, ◌++◌, map, flat_map}
use Rattle.event_lines.specs.inside.Commas.{with_commas}
use Rattle.event_lines.specs.Shown.{cpu_track_shown}
use Rattle.event_lines.specs.TrackEvents.{cpu_events, some_group}
use Rattle.event_lines.proofs.groups.put_cpus.Given as goal

-- the events of the tracks so far were written
abbrev pub invariant-loop-track : goal.invariant-loop-track
invariant-loop-track l = l.text ≡ l.fn.text ++ with_commas (flat_map (cpu_events (some_group l.set) l.process) (map cpu_track_shown l.yielded))
