use Rattle.std.proofs.Common.{◌≡◌, take}
use Rattle.rt_task.specs.RangeRules.{groups_top}
use Rattle.set_explain.proofs.range.groups_top.Given as goal

abbrev pub invariant-loop-c : goal.invariant-loop-c
invariant-loop-c l = l.top ≡ groups_top (take l.c-index l.clusters)
