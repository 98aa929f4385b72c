use Rattle.group_sems.proofs.ReadRefusals as law
use Rattle.group_sems.proofs.laws.unlock_refusal_is_read.Goals as goal

pub returns : goal.returns
returns c = law.unlock_refusal_is_read
