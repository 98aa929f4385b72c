use Rattle.group_sems.proofs.Opening as law
use Rattle.group_sems.proofs.laws.opening_is_kept.Goals as goal

pub returns : goal.returns
returns c = law.opening_is_kept
