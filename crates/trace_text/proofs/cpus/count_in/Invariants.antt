use Rattle.std.proofs.Common.{◌≡◌, drop, map}
use Rattle.std.specs.Prelude.{max}
use Rattle.rt_task.specs.declared.Cluster.{Cluster}
use Rattle.rt_task.specs.RuleWords.{greatest}
use Rattle.trace_text.proofs.cpus.count_in.Given as goal

-- the greatest so far and those of the rest of the clusters have the greatest of all
abbrev pub invariant-loop-cluster : goal.invariant-loop-cluster
invariant-loop-cluster l =
    max l.greatest (greatest (map (λ (k : Cluster). k.group.0) (drop l.cluster-index l.cluster-items))) ≡ greatest (map (λ (k : Cluster). k.group.0) l.cluster-items)
