use Rattle.std.proofs.Common.{◌≡◌, map, take}
use Rattle.rt_task.specs.Draft as spec
use Rattle.set_rules.proofs.accept.clusters_of.Given as goal

abbrev pub invariant-loop-c : goal.invariant-loop-c
invariant-loop-c l = l.found.items ≡ map spec.cluster_of (take l.c-index l.clusters)
