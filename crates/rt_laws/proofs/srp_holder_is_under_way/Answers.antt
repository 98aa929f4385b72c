use Rattle.rt_laws.proofs.srp.SrpOnce as laws
use Rattle.rt_laws.proofs.srp_holder_is_under_way.Goals as goal

pub returns : goal.returns
returns c = laws.srp_holder_is_under_way
