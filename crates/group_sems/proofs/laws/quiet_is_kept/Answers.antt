use Rattle.group_sems.proofs.Quiet as law
use Rattle.group_sems.proofs.laws.quiet_is_kept.Goals as goal

pub returns : goal.returns
returns c = law.quiet_is_kept
