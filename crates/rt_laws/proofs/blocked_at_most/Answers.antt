use Rattle.rt_laws.proofs.pcp.BlockedMoves as laws
use Rattle.rt_laws.proofs.blocked_at_most.Goals as goal

pub returns : goal.returns
returns c = laws.blocked_at_most
