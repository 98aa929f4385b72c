use Rattle.std.proofs.Common.{◌≡◌, true, false, refl}
use Rattle.sem_table.specs.Asked.{is_granted}
use Rattle.group_sems.proofs.GroupSems.lock.Goals as goal

pub tell_waiters-requires : goal.tell_waiters-requires
tell_waiters-requires c =
    let granted : is_granted c.args.task.0 c.args.key c.args.sem.0 c.self.inside.sems ≡ true = c.in-Granted.ensures.granted.0 refl in
    let tell = rw (← c.self.view_is) at c.requires.tell in
    rw (c.boost.ensures, c.ask-answer.ensures.after) (tell granted)

pub wait_for_owner-requires-clause-can : goal.wait_for_owner-requires-clause-can
wait_for_owner-requires-clause-can c =
    let queued : is_granted c.args.task.0 c.args.key c.args.sem.0 c.self.inside.sems ≡ false = c.in-Queued.ensures.queued.0 refl in
    let queue = rw (← c.self.view_is) at c.requires.queue in
    rw c.ask-answer.ensures.after (queue queued)
