use Rattle.rt_changes.proofs.rankings.SameClusters as laws
use Rattle.rt_changes.proofs.clusters.links_settle.Goals as goal

pub returns : goal.returns
returns c = laws.links_settle
