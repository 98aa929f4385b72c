use Rattle.group_jobs.proofs.CpuSteps as laws
use Rattle.group_jobs.proofs.laws.cpu_is_counted.Goals as goal

pub returns : goal.returns
returns c = laws.cpu_is_counted
