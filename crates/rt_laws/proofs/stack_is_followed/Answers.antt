use Rattle.rt_laws.proofs.srp.SrpOnce as laws
use Rattle.rt_laws.proofs.stack_is_followed.Goals as goal

pub returns : goal.returns
returns c = laws.stack_is_followed
