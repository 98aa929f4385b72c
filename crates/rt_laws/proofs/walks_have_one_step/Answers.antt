use Rattle.rt_laws.proofs.pcp.PriorityCeiling as laws
use Rattle.rt_laws.proofs.walks_have_one_step.Goals as goal

pub returns : goal.returns
returns c = laws.walks_have_one_step
