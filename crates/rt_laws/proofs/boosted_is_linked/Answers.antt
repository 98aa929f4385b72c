use Rattle.rt_laws.proofs.mpcp.BoostedHolders as laws
use Rattle.rt_laws.proofs.boosted_is_linked.Goals as goal

pub returns : goal.returns
returns c = laws.boosted_is_linked
