use Rattle.rt_changes.proofs.requests.Laws as laws
use Rattle.rt_changes.proofs.counts.opens_empty.Goals as goal

pub returns : goal.returns
returns c = laws.opens_empty
