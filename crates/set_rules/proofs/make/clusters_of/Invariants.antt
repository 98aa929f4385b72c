use Rattle.std.proofs.Common.{◌≡◌, map, take}
use Rattle.rt_task.specs.Draft as spec
use Rattle.set_rules.proofs.make.clusters_of.Given as goal

abbrev pub invariant-loop-c : goal.invariant-loop-c
invariant-loop-c l = l.found.items ≡ map spec.draft_cluster (take l.c-index l.clusters)
