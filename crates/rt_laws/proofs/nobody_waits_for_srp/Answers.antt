use Rattle.rt_laws.proofs.srp.SrpOnce as laws
use Rattle.rt_laws.proofs.nobody_waits_for_srp.Goals as goal

pub returns : goal.returns
returns c = laws.nobody_waits_for_srp
