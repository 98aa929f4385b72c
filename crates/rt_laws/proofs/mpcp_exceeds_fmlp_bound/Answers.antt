use Rattle.rt_laws.proofs.semaphores.Reached as laws
use Rattle.rt_laws.proofs.mpcp_exceeds_fmlp_bound.Goals as goal

pub returns : goal.returns
returns c = laws.mpcp_exceeds_fmlp_bound
