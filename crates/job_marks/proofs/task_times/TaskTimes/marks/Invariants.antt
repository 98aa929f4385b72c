use Rattle.std.proofs.Common.{◌≡◌, map}
use Rattle.rt_rules.specs.Numbers.{numbers_from}
use Rattle.event_lines.specs.Shown.{job_marks_shown}
use Rattle.job_marks.specs.inside.Marks.{marks_by}
use Rattle.job_marks.specs.JobTimes.{times_of}
use Rattle.job_marks.proofs.task_times.TaskTimes.marks.Given as goal

-- the marks of the jobs so far
abbrev pub invariant-loop-i : goal.invariant-loop-i
invariant-loop-i l = map job_marks_shown l.marks.items ≡ map (marks_by l.task (times_of l.self) l.clock.0) (numbers_from 1 l.i)
