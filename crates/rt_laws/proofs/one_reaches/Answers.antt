use Rattle.rt_laws.proofs.pcp.BlockedOnce as laws
use Rattle.rt_laws.proofs.one_reaches.Goals as goal

pub returns : goal.returns
returns c = laws.one_reaches
