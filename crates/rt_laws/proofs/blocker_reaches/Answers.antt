use Rattle.rt_laws.proofs.pcp.BlockedMoves as laws
use Rattle.rt_laws.proofs.blocker_reaches.Goals as goal

pub returns : goal.returns
returns c = laws.blocker_reaches
