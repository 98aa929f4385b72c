use Rattle.rt_changes.proofs.requests.Open as laws
use Rattle.rt_changes.proofs.counts.holder_has_none.Goals as goal

pub returns : goal.returns
returns c = laws.holder_has_none
