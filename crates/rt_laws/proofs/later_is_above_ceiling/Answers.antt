use Rattle.rt_laws.proofs.pcp.PriorityCeiling as laws
use Rattle.rt_laws.proofs.later_is_above_ceiling.Goals as goal

pub returns : goal.returns
returns c = laws.later_is_above_ceiling
