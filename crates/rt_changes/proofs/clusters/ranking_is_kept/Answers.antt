use Rattle.rt_changes.proofs.rankings.SameClusters as laws
use Rattle.rt_changes.proofs.clusters.ranking_is_kept.Goals as goal

pub returns : goal.returns
returns c = laws.ranking_is_kept
