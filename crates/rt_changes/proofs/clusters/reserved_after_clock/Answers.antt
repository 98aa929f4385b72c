use Rattle.rt_changes.proofs.rankings.MovedClusters as laws
use Rattle.rt_changes.proofs.clusters.reserved_after_clock.Goals as goal

pub returns : goal.returns
returns c = laws.reserved_after_clock
