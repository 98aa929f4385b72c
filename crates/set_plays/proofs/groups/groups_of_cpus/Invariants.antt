use Rattle.std.proofs.Common.{◌≡◌, ◌++◌, drop}
use Rattle.set_plays.specs.Groups.{cpu_groups}
use Rattle.set_plays.proofs.groups.groups_of_cpus.Given as goal

-- what was put, and then the groups of the rest, are all of them
abbrev pub invariant-loop-cluster : goal.invariant-loop-cluster
invariant-loop-cluster l = l.groups.items ++ cpu_groups (drop l.cluster-index l.clusters) ≡ cpu_groups l.clusters
