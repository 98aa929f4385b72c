use Rattle.group_sems.proofs.ReadRefusals as law
use Rattle.group_sems.proofs.laws.lock_refusal_is_read.Goals as goal

pub returns : goal.returns
returns c = law.lock_refusal_is_read
