use Rattle.group_jobs.proofs.JobSteps as laws
use Rattle.group_jobs.proofs.laws.operation_is_counted.Goals as goal

pub returns : goal.returns
returns c = laws.operation_is_counted
