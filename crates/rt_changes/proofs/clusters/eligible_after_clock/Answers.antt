use Rattle.rt_changes.proofs.rankings.SameEligibility as laws
use Rattle.rt_changes.proofs.clusters.eligible_after_clock.Goals as goal

pub returns : goal.returns
returns c = laws.eligible_after_clock
