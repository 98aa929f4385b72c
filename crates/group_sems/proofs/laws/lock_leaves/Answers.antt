use Rattle.group_sems.proofs.Leaving as law
use Rattle.group_sems.proofs.laws.lock_leaves.Goals as goal

pub returns : goal.returns
returns c = law.lock_leaves
