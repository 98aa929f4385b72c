use Rattle.rt_changes.proofs.rankings.SameEligibility as laws
use Rattle.rt_changes.proofs.clusters.quiet_keeps_sems.Goals as goal

pub returns : goal.returns
returns c = laws.quiet_keeps_sems
