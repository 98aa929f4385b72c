use Rattle.rt_laws.proofs.pcp.BlockedMoves as laws
use Rattle.rt_laws.proofs.taking_is_prompt.Goals as goal

pub returns : goal.returns
returns c = laws.taking_is_prompt
