use Rattle.rt_laws.proofs.pcp.BlockedMoves as laws
use Rattle.rt_laws.proofs.blocked_once.Goals as goal

pub returns : goal.returns
returns c = laws.blocked_once
