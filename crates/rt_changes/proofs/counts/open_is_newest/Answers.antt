use Rattle.rt_changes.proofs.requests.Open as laws
use Rattle.rt_changes.proofs.counts.open_is_newest.Goals as goal

pub returns : goal.returns
returns c = laws.open_is_newest
