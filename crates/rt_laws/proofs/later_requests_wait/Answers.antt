use Rattle.rt_laws.proofs.fmlp.InOrder as laws
use Rattle.rt_laws.proofs.later_requests_wait.Goals as goal

pub returns : goal.returns
returns c = laws.later_requests_wait
