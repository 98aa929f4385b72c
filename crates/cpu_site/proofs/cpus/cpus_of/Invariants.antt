use Rattle.std.proofs.Common.{◌≡◌, ◌+◌, ◌≤◌, ◌++◌, drop}
use Rattle.cpu_site.specs.Cpus.{cpu_numbers}
use Rattle.rt_plays.proofs.ProcessorLaws.{cpus_among, cpu_count}
use Rattle.cpu_site.proofs.cpus.cpus_of.Given as goal

-- what was put, and then the group's processors among the rest of the clusters, are all of them
abbrev pub invariant-loop-cluster : goal.invariant-loop-cluster
invariant-loop-cluster l =
    (cpu_numbers l.cpus.items ++ cpus_among l.group.0 l.first (drop l.cluster-index l.clusters) ≡ cpus_among l.group.0 0 l.clusters)
    × (l.first + cpu_count (drop l.cluster-index l.clusters) ≤ 64)
