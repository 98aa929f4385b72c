use Rattle.rt_laws.proofs.pcp.PriorityCeiling as laws
use Rattle.rt_laws.proofs.unlock_grants_one.Goals as goal

pub returns : goal.returns
returns c = laws.unlock_grants_one
