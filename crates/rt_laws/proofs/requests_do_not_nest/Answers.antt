use Rattle.rt_laws.proofs.semaphores.SemaphoreLaws as laws
use Rattle.rt_laws.proofs.requests_do_not_nest.Goals as goal

pub returns : goal.returns
returns c = laws.requests_do_not_nest
