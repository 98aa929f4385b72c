use Rattle.std.proofs.Common.{◌≡◌, Some, sym, ap, ◌∙◌}
use Rattle.rt_base.specs.TaskNos.{number_of_task}
use Rattle.sem_table.specs.Told.{owner_of}
use Rattle.group_sems.proofs.GroupSems.tell_waiters.Goals as goal

pub tell_waiters_of-requires-clause-can : goal.tell_waiters_of-requires-clause-can
tell_waiters_of-requires-clause-can c =
    let own : owner_of c.args.self.now.table c.args.sem.0 ≡ Some c.in-Some.owner.0 = rw (← c.self.view_is) (sym c.owner-owner.ensures ∙ ap number_of_task c.in-Some.is) in
    c.requires.tell c.in-Some.owner.0 own
