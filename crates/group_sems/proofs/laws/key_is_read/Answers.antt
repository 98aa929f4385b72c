use Rattle.group_sems.proofs.KeptKeys as law
use Rattle.group_sems.proofs.laws.key_is_read.Goals as goal

pub returns : goal.returns
returns c = law.key_is_read
