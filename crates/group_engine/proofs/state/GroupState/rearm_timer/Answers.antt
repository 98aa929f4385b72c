use Rattle.std.proofs.lemmas.List.{set-set}
use Rattle.group_engine.proofs.state.GroupState.rearm_timer.Goals as goal

pub returns-in-Some : goal.returns-in-Some
returns-in-Some c = rw (c.arm.ensures, c.cancel.ensures.cancelled, set-set, c.in-Some.ensures)
