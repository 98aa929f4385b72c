use Rattle.rt_changes.proofs.requests.Open as laws
use Rattle.rt_changes.proofs.counts.closed_stays_closed.Goals as goal

pub returns : goal.returns
returns c = laws.closed_stays_closed
