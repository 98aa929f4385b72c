use Rattle.rt_laws.proofs.semaphores.Witness as laws
use Rattle.rt_laws.proofs.fmlp_bound_is_reached.Goals as goal

pub returns : goal.returns
returns c = laws.fmlp_bound_is_reached
