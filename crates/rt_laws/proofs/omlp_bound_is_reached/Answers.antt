use Rattle.rt_laws.proofs.semaphores.Witness as laws
use Rattle.rt_laws.proofs.omlp_bound_is_reached.Goals as goal

pub returns : goal.returns
returns c = laws.omlp_bound_is_reached
