use Rattle.group_jobs.proofs.JobSteps as laws
use Rattle.group_jobs.proofs.laws.others_count_nothing.Goals as goal

pub returns : goal.returns
returns c = laws.others_count_nothing
