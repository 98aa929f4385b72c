use Rattle.std.proofs.Common.{◌-◌, slice_set, None, Some, ap, ◌∙◌}
use Rattle.part_state.specs.declared.locks.TaskLock.{TaskLock}
use Rattle.part_state.proofs.state.PartState.take.Goals as goal

pub returns : goal.returns
returns c = λ no. c.put.ensures
    ∙ ap (λ (l : TaskLock). record c.args.self.now { locks = slice_set c.args.self.now.locks (c.args.task.0 - 1) l })
    (c.granted-lock.ensures
    ∙ ap (λ k. record { holds = Some c.args.sem; waits = None; since = k }) (c.clock.ensures ∙ ap (λ p. p.kept.clock) c.self.view_is))
