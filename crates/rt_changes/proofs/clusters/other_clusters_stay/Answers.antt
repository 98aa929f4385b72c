use Rattle.rt_changes.proofs.rankings.SameClusters as laws
use Rattle.rt_changes.proofs.clusters.other_clusters_stay.Goals as goal

pub returns : goal.returns
returns c = laws.other_clusters_stay
