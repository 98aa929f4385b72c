use Rattle.rt_changes.proofs.rankings.SameClusters as laws
use Rattle.rt_changes.proofs.clusters.cluster_stays.Goals as goal

pub returns : goal.returns
returns c = laws.cluster_stays
