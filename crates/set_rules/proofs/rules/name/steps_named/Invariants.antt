use Rattle.std.proofs.Common.{◌≡◌, [], take, drop}
use Rattle.rt_task.specs.Refusals.{first_failing}
use Rattle.rt_task.specs.NameRules as rules
use Rattle.set_rules.proofs.rules.name.steps_named.Given as goal

-- the first failing of what is left is that of all
abbrev pub invariant-loop-i : goal.invariant-loop-i
invariant-loop-i l = first_failing (rules.step_name l.d) (take l.i l.s-items) (drop l.i l.s-items) ≡ first_failing (rules.step_name l.d) [] l.s-items
