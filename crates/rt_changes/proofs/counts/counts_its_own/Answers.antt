use Rattle.rt_changes.proofs.requests.Open as laws
use Rattle.rt_changes.proofs.counts.counts_its_own.Goals as goal

pub returns : goal.returns
returns c = laws.counts_its_own
