use Rattle.rt_changes.proofs.requests.Open as laws
use Rattle.rt_changes.proofs.counts.counts_others.Goals as goal

pub returns : goal.returns
returns c = laws.counts_others
