use Rattle.rt_changes.proofs.requests.Open as laws
use Rattle.rt_changes.proofs.counts.closes_by_grant.Goals as goal

pub returns : goal.returns
returns c = laws.closes_by_grant
