use Rattle.std.proofs.Common.{◌≡◌, [], take, drop}
use Rattle.rt_task.specs.Refusals.{first_failing}
use Rattle.rt_task.specs.SharingRules as rules
use Rattle.set_rules.proofs.rules.sharing.sems_sharing.Given as goal

-- the first failing of what is left is that of all
abbrev pub invariant-loop-i : goal.invariant-loop-i
invariant-loop-i l = first_failing (rules.sem_sharing l.d) (take l.i l.sems) (drop l.i l.sems) ≡ first_failing (rules.sem_sharing l.d) [] l.sems
