-- The operation that a job comes to, and whether it has to wait.
use Rattle.std.specs.Prelude.{ℕ, ◌-◌, Bool, false, not, ◌||◌, List, Option, slice_get, slice_index_or}
use Rattle.rt_task.specs.declared.Op.{Op}
use Rattle.rt_task.specs.declared.Op.TheVariants.{Work}
use Rattle.rt_task.specs.declared.Task.{Task}
use Rattle.rt_rules.specs.declared.history.Situation.{Situation}
use Rattle.rt_model.specs.Group.{no_task}

-- the operation at a position of the body of a task, which is named by its number
abbrev pub operation_at : List Task → ℕ → ℕ → Option Op
operation_at tasks t at = slice_get (slice_index_or tasks (t - 1) no_task).body at

-- a Work waits for the next tick, or for budget
abbrev pub waits : Situation → Op → Bool
waits s Work = s.worked || not s.budget
waits s _ = false
