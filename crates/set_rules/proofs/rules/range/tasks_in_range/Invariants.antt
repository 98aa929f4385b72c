use Rattle.std.proofs.Common.{◌≡◌, [], take, drop}
use Rattle.rt_task.specs.Refusals.{first_failing}
use Rattle.rt_task.specs.RangeRules as rules
use Rattle.set_rules.proofs.rules.range.tasks_in_range.Given as goal

-- the first failing of what is left is that of all
abbrev pub invariant-loop-i : goal.invariant-loop-i
invariant-loop-i l = first_failing (rules.task_range l.d) (take l.i l.d.tasks) (drop l.i l.d.tasks) ≡ first_failing (rules.task_range l.d) [] l.d.tasks
