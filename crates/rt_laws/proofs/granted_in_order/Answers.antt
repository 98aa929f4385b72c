use Rattle.rt_laws.proofs.fmlp.InOrder as laws
use Rattle.rt_laws.proofs.granted_in_order.Goals as goal

pub returns : goal.returns
returns c = laws.granted_in_order
