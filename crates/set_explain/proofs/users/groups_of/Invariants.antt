use Rattle.std.proofs.Common.{◌≡◌, take, map}
use Rattle.rt_task.specs.Lookups.{group_of}
use Rattle.set_explain.proofs.users.groups_of.Given as goal

abbrev pub invariant-loop-cluster : goal.invariant-loop-cluster
invariant-loop-cluster l = l.groups.items ≡ map (group_of l.d) (take l.cluster-index l.clusters)
