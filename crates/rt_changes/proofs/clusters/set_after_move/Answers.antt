use Rattle.rt_changes.proofs.rankings.MovedClusters as laws
use Rattle.rt_changes.proofs.clusters.set_after_move.Goals as goal

pub returns : goal.returns
returns c = laws.set_after_move
