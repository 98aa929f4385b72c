use Rattle.std.proofs.Common.{◌≡◌, map, take}
use Rattle.rt_task.specs.Draft as spec
use Rattle.set_rules.proofs.make.resvs_of.Given as goal

abbrev pub invariant-loop-r : goal.invariant-loop-r
invariant-loop-r l = l.found.items ≡ map spec.draft_resv (take l.r-index l.resvs)
