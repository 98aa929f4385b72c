use Rattle.group_jobs.proofs.JobSteps as laws
use Rattle.group_jobs.proofs.laws.arrival_is_counted.Goals as goal

pub returns : goal.returns
returns c = laws.arrival_is_counted
