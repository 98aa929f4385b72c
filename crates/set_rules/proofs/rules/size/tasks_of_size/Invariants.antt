use Rattle.std.proofs.Common.{◌≡◌, [], take, drop}
use Rattle.rt_task.specs.Refusals.{first_failing}
use Rattle.rt_task.specs.SizeRules as rules
use Rattle.set_rules.proofs.rules.size.tasks_of_size.Given as goal

-- the first failing of what is left is that of all
abbrev pub invariant-loop-i : goal.invariant-loop-i
invariant-loop-i l = first_failing (rules.task_size l.d) (take l.i l.tasks) (drop l.i l.tasks) ≡ first_failing (rules.task_size l.d) [] l.tasks
