use Rattle.rt_laws.proofs.semaphores.Reached as laws
use Rattle.rt_laws.proofs.boosted_is_passed.Goals as goal

pub returns : goal.returns
returns c = laws.boosted_is_passed
