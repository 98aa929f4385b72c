use Rattle.std.proofs.Common.{sym}
use Rattle.group_sems.proofs.GroupSems.wait_for_owner.Goals as goal

pub tell-requires : goal.tell-requires
tell-requires c = let can = rw (← c.self.view_is) at c.requires.can in can c.in-Some.owner.0 (sym c.in-Some.ensures)
