use Rattle.rt_changes.proofs.rankings.SameClusters as laws
use Rattle.rt_changes.proofs.clusters.runs_stay.Goals as goal

pub returns : goal.returns
returns c = laws.runs_stay
