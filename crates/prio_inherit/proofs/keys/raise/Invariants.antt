use Rattle.std.proofs.Common.{◌≡◌, ℕ, ◌<◌, length}
use Rattle.std.specs.Prelude.{Some}
use Rattle.rt_base.specs.TaskNos.{number_of_task, numbers_of_tasks}
use Rattle.prio_inherit.specs.Waits.{next_of}
use Rattle.prio_inherit.proofs.Walking.{after}
use Rattle.prio_inherit.proofs.Raising.{Raises}
use Rattle.prio_inherit.proofs.keys.raise.Given as goal

-- all but the task that the walk has come to have their keys
abbrev pub invariant-loop-step : goal.invariant-loop-step
invariant-loop-step l = record {
  keys_length : length l.keys.items ≡ length (numbers_of_tasks l.nexts);
  at_within : (t : ℕ) → number_of_task l.at ≡ Some t → t < length (numbers_of_tasks l.nexts);
  raising : Raises l.nexts l.fn.keys.items (number_of_task l.fn.start) l.keys.items (number_of_task l.at) l.key;
  came : after (next_of (numbers_of_tasks l.nexts)) l._step (number_of_task l.fn.start) ≡ number_of_task l.at;
}
