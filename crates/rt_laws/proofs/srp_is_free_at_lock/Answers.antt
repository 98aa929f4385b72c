use Rattle.rt_laws.proofs.srp.SrpOnce as laws
use Rattle.rt_laws.proofs.srp_is_free_at_lock.Goals as goal

pub returns : goal.returns
returns c = laws.srp_is_free_at_lock
