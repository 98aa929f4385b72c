use Rattle.std.proofs.Common.{◌≡◌}
use Rattle.rt_base.specs.TaskNos.{number_of_task, numbers_of_tasks}
use Rattle.prio_inherit.specs.Waits.{next_of}
use Rattle.prio_inherit.specs.Local.{IsSettling}
use Rattle.prio_inherit.proofs.Walking.{after}
use Rattle.prio_inherit.proofs.keys.update_walk.Given as goal

-- all but the task that the walk has come to have their keys
abbrev pub invariant-loop-step : goal.invariant-loop-step
invariant-loop-step l = record {
  settling : IsSettling l.bases (numbers_of_tasks l.nexts) l.keys.items (number_of_task l.at);
  came : after (next_of (numbers_of_tasks l.nexts)) l._step (number_of_task l.fn.start) ≡ number_of_task l.at;
}
