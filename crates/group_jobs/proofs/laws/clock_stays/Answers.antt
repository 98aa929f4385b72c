use Rattle.group_jobs.proofs.CpuSteps as laws
use Rattle.group_jobs.proofs.laws.clock_stays.Goals as goal

pub returns : goal.returns
returns c = laws.clock_stays
