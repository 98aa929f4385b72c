use Rattle.rt_laws.proofs.mpcp.BoostedHolders as laws
use Rattle.rt_laws.proofs.holder_is_boosted.Goals as goal

pub returns : goal.returns
returns c = laws.holder_is_boosted
