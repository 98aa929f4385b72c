use Rattle.rt_changes.proofs.requests.Bounds as laws
use Rattle.rt_changes.proofs.counts.seen_within_bound.Goals as goal

pub returns : goal.returns
returns c = laws.seen_within_bound
