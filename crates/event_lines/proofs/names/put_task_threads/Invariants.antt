use Rattle.std.proofs.Common.{◌≡◌, ◌++◌, map, drop}
use Rattle.event_lines.specs.inside.Commas.{with_commas}
use Rattle.event_lines.specs.Shown.{task_track_shown}
use Rattle.event_lines.specs.TrackEvents.{some_group, task_thread}
use Rattle.event_lines.proofs.names.put_task_threads.Given as goal

-- what was written, and then what is left, is the whole
abbrev pub invariant-loop-track : goal.invariant-loop-track
invariant-loop-track l = l.text.items ++ with_commas (map (task_thread (some_group l.set) l.process) (map task_track_shown (drop l.track-index l.tracks))) ≡ l.fn.text.items ++ with_commas (map (task_thread (some_group l.set) l.process) (map task_track_shown l.tracks))
