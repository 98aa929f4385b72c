use Rattle.group_sems.proofs.Bases as law
use Rattle.group_sems.proofs.laws.bases_are_kept.Goals as goal

pub returns : goal.returns
returns c = law.bases_are_kept
