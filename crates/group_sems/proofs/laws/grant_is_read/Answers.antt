use Rattle.group_sems.proofs.Reading as law
use Rattle.group_sems.proofs.laws.grant_is_read.Goals as goal

pub returns : goal.returns
returns c = law.grant_is_read
