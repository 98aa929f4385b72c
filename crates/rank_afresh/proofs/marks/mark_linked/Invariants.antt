use Rattle.std.proofs.Common.{◌≡◌, ℕ, ◌<◌, ◌||◌, false, drop, get_or, length}
use Rattle.rt_base.specs.TaskNos.{numbers_of_tasks}
use Rattle.rt_rules.specs.Numbers.{has}
use Rattle.rt_rules.specs.Placing.{tasks_in}
use Rattle.rank_afresh.proofs.marks.mark_linked.Given as goal

-- with the marks so far, the rest answers as the whole
abbrev pub invariant-loop-task : goal.invariant-loop-task
invariant-loop-task l = (t : ℕ) → t < length l.marks → get_or l.marks t false || has t (tasks_in (numbers_of_tasks (drop l.task-index l.positions))) ≡ has t (tasks_in (numbers_of_tasks l.positions))
