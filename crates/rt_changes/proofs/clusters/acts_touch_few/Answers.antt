use Rattle.rt_changes.proofs.rankings.TouchedTasks as laws
use Rattle.rt_changes.proofs.clusters.acts_touch_few.Goals as goal

pub returns : goal.returns
returns c = laws.acts_touch_few
