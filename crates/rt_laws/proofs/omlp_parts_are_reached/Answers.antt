use Rattle.rt_laws.proofs.semaphores.Reached as laws
use Rattle.rt_laws.proofs.omlp_parts_are_reached.Goals as goal

pub returns : goal.returns
returns c = laws.omlp_parts_are_reached
