use Rattle.std.proofs.Common.{◌≡◌, take}
use Rattle.std.specs.Prelude.{sum_by}
use Rattle.rt_task.specs.declared.draft.DraftCluster.{DraftCluster}
use Rattle.set_rules.proofs.rules.range.cpus_of.Given as goal

abbrev pub invariant-loop-c : goal.invariant-loop-c
invariant-loop-c l = l.sum ≡ sum_by (λ (c : DraftCluster). c.cpus) (take l.c-index l.c-items)
