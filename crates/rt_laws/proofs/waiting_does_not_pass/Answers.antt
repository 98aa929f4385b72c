use Rattle.rt_laws.proofs.pcp.PriorityCeiling as laws
use Rattle.rt_laws.proofs.waiting_does_not_pass.Goals as goal

pub returns : goal.returns
returns c = laws.waiting_does_not_pass
