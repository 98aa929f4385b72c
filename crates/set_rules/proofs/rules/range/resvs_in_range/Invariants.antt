use Rattle.std.proofs.Common.{◌≡◌, [], take, drop}
use Rattle.rt_task.specs.Refusals.{first_failing}
use Rattle.rt_task.specs.RangeRules as rules
use Rattle.set_rules.proofs.rules.range.resvs_in_range.Given as goal

-- the first failing of what is left is that of all
abbrev pub invariant-loop-i : goal.invariant-loop-i
invariant-loop-i l = first_failing (rules.resv_range l.d) (take l.i l.d.resvs) (drop l.i l.d.resvs) ≡ first_failing (rules.resv_range l.d) [] l.d.resvs
