use Rattle.rt_laws.proofs.mpcp.HighestGranted as laws
use Rattle.rt_laws.proofs.highest_is_granted.Goals as goal

pub returns : goal.returns
returns c = laws.highest_is_granted
