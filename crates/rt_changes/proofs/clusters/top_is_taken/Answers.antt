use Rattle.rt_changes.proofs.rankings.SameClusters as laws
use Rattle.rt_changes.proofs.clusters.top_is_taken.Goals as goal

pub returns : goal.returns
returns c = laws.top_is_taken
