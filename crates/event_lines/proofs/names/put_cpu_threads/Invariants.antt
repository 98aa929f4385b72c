use Rattle.std.proofs.Common.{◌≡◌, ◌++◌, map, drop}
use Rattle.event_lines.specs.inside.Commas.{with_commas}
use Rattle.event_lines.specs.Shown.{cpu_track_shown}
use Rattle.event_lines.specs.TrackEvents.{cpu_thread}
use Rattle.event_lines.proofs.names.put_cpu_threads.Given as goal

-- what was written, and then what is left, is the whole
abbrev pub invariant-loop-track : goal.invariant-loop-track
invariant-loop-track l = l.text.items ++ with_commas (map (cpu_thread l.process) (map cpu_track_shown (drop l.track-index l.tracks))) ≡ l.fn.text.items ++ with_commas (map (cpu_thread l.process) (map cpu_track_shown l.tracks))
