use Rattle.rt_laws.proofs.semaphores.SemaphoreLaws as laws
use Rattle.rt_laws.proofs.holder_holds_one.Goals as goal

pub returns : goal.returns
returns c = laws.holder_holds_one
