use Rattle.group_jobs.proofs.CpuSteps as laws
use Rattle.group_jobs.proofs.laws.refused_stays.Goals as goal

pub returns : goal.returns
returns c = laws.refused_stays
