use Rattle.group_sems.proofs.Locks as law
use Rattle.group_sems.proofs.laws.lock_is_kept.Goals as goal

pub returns : goal.returns
returns c = law.lock_is_kept
