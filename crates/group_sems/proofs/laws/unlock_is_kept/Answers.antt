use Rattle.group_sems.proofs.Unlocks as law
use Rattle.group_sems.proofs.laws.unlock_is_kept.Goals as goal

pub returns : goal.returns
returns c = law.unlock_is_kept
