use Rattle.job_facts.proofs.Jobs as laws
use Rattle.job_facts.proofs.jobs_are_kept.Goals as goal

pub returns : goal.returns
returns c = laws.jobs_are_kept
