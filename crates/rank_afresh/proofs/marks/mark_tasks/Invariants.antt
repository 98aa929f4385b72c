use Rattle.std.proofs.Common.{◌≡◌, ℕ, ◌<◌, ◌||◌, false, drop, get_or, length}
use Rattle.rt_base.specs.TaskNos.{numbers}
use Rattle.rt_rules.specs.Numbers.{has}
use Rattle.rank_afresh.proofs.marks.mark_tasks.Given as goal

-- with the marks so far, the rest answers as the whole
abbrev pub invariant-loop-task : goal.invariant-loop-task
invariant-loop-task l = (t : ℕ) → t < length l.marks → get_or l.marks t false || has t (numbers (drop l.task-index l.tasks)) ≡ has t (numbers l.tasks)
