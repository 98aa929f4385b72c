use Rattle.std.proofs.Common.{refl}
use Rattle.rt_rules.proofs.MemberLaws.{equal_self}
use Rattle.group_engine.proofs.state.GroupState.update_any.Goals as goal

pub update-requires : goal.update-requires
update-requires c = let all = rw c.in-Some.is at c.requires in all c.in-Some.task.0 (rw (equal_self c.in-Some.task.0) refl)
