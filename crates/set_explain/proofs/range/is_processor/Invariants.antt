use Rattle.std.proofs.Common.{◌≡◌, nat_lt, drop}
use Rattle.std.specs.Prelude.{sum_by}
use Rattle.rt_task.specs.declared.draft.DraftCluster.{DraftCluster}
use Rattle.set_explain.proofs.range.is_processor.Given as goal

-- whether what is left is below the rest is whether the number is below all
abbrev pub invariant-loop-c : goal.invariant-loop-c
invariant-loop-c l =
    nat_lt l.left (sum_by (λ (c : DraftCluster). c.cpus) (drop l.c-index l.clusters))
    ≡ nat_lt l.cpu (sum_by (λ (c : DraftCluster). c.cpus) l.clusters)
