use Rattle.std.proofs.Common.{◌≡◌, map}
use Rattle.rt_task.specs.Draft as spec
use Rattle.set_rules.proofs.accept.resvs_of.Given as goal

abbrev pub invariant-loop-r : goal.invariant-loop-r
invariant-loop-r l = l.found.items ≡ map spec.resv_of l.yielded
