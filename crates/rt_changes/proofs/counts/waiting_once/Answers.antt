use Rattle.rt_changes.proofs.requests.Once as laws
use Rattle.rt_changes.proofs.counts.waiting_once.Goals as goal

pub returns : goal.returns
returns c = laws.waiting_once
