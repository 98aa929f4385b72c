use Rattle.rt_changes.proofs.requests.Open as laws
use Rattle.rt_changes.proofs.counts.waiting_has_open.Goals as goal

pub returns : goal.returns
returns c = laws.waiting_has_open
