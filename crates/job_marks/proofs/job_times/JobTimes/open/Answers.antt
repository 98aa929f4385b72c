use Rattle.job_marks.proofs.Feeding.{kept-opening}
use Rattle.job_marks.proofs.job_times.JobTimes.open.Goals as goal

pub returns-clause-opened : goal.returns-clause-opened
returns-clause-opened c = kept-opening (record { tasks = c.in_ok-tasks.tasks }) c.in_ok-tasks.ensures.unbegun
