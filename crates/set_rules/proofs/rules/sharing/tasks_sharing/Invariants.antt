use Rattle.std.proofs.Common.{◌≡◌, [], take, drop}
use Rattle.rt_task.specs.Refusals.{first_failing}
use Rattle.rt_task.specs.SharingRules as rules
use Rattle.set_rules.proofs.rules.sharing.tasks_sharing.Given as goal

-- the first failing of what is left is that of all
abbrev pub invariant-loop-i : goal.invariant-loop-i
invariant-loop-i l = first_failing (rules.task_sharing l.d) (take l.i l.tasks) (drop l.i l.tasks) ≡ first_failing (rules.task_sharing l.d) [] l.tasks
