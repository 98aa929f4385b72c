use Rattle.group_jobs.proofs.JobSteps as laws
use Rattle.group_jobs.proofs.laws.other_jobs_stay.Goals as goal

pub returns : goal.returns
returns c = laws.other_jobs_stay
