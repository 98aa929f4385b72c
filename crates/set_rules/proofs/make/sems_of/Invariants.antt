use Rattle.std.proofs.Common.{◌≡◌, take}
use Rattle.set_rules.proofs.make.sems_of.Given as goal

abbrev pub invariant-loop-s : goal.invariant-loop-s
invariant-loop-s l = l.found.items ≡ take l.s-index l.sems
