use Rattle.group_sems.proofs.ReadRefusals as law
use Rattle.group_sems.proofs.laws.holder_is_read.Goals as goal

pub returns : goal.returns
returns c = law.holder_is_read
