use Rattle.rt_changes.proofs.rankings.TouchedTasks as laws
use Rattle.rt_changes.proofs.clusters.clock_touches_due.Goals as goal

pub returns : goal.returns
returns c = laws.clock_touches_due
