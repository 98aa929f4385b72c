use Rattle.rt_changes.proofs.rankings.MovedClusters as laws
use Rattle.rt_changes.proofs.clusters.standing_is_served.Goals as goal

pub returns : goal.returns
returns c = laws.standing_is_served
