use Rattle.rt_laws.proofs.semaphores.Witness as laws
use Rattle.rt_laws.proofs.blocked_is_reached.Goals as goal

pub returns : goal.returns
returns c = laws.blocked_is_reached
