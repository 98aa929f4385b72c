use Rattle.std.proofs.Common.{◌≡◌, [], take, drop}
use Rattle.rt_task.specs.Refusals.{first_failing}
use Rattle.rt_task.specs.Validity as rules
use Rattle.set_rules.proofs.rules.shape.resvs_shaped.Given as goal

-- the first failing of what is left is that of all
abbrev pub invariant-loop-i : goal.invariant-loop-i
invariant-loop-i l = first_failing (rules.resv_shape l.d) (take l.i l.resvs) (drop l.i l.resvs) ≡ first_failing (rules.resv_shape l.d) [] l.resvs
