use Rattle.rt_laws.proofs.semaphores.SemaphoreLaws as laws
use Rattle.rt_laws.proofs.engaged_keeps_job.Goals as goal

pub returns : goal.returns
returns c = laws.engaged_keeps_job
