use Rattle.std.proofs.Common.{◌≡◌, ◌++◌, map, drop, flat_map}
use Rattle.event_lines.specs.inside.Commas.{with_commas}
use Rattle.event_lines.specs.Shown.{job_marks_shown}
use Rattle.event_lines.specs.TrackEvents.{job_events}
use Rattle.event_lines.proofs.job_marks.put_job_marks.Given as goal

-- what was written, and then what is left, is the whole
abbrev pub invariant-loop-marks : goal.invariant-loop-marks
invariant-loop-marks l = l.text ++ with_commas (flat_map (job_events l.thread.process l.thread.number) (map job_marks_shown (drop l.marks-index l.jobs))) ≡ l.fn.text ++ with_commas (flat_map (job_events l.thread.process l.thread.number) (map job_marks_shown l.jobs))
