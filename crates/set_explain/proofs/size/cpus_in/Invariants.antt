use Rattle.std.proofs.Common.{◌≡◌, ◌+◌, take}
use Rattle.std.specs.Prelude.{sum_by}
use Rattle.rt_base.specs.declared.TheConstants.{MOST_CPUS}
use Rattle.rt_task.specs.declared.draft.DraftCluster.{DraftCluster}
use Rattle.set_explain.proofs.size.cpus_in.Given as goal

-- what is left and the processors so far are as many as a set may have
abbrev pub invariant-loop-c : goal.invariant-loop-c
invariant-loop-c l = l.left + sum_by (λ (c : DraftCluster). c.cpus) (take l.c-index l.clusters) ≡ MOST_CPUS
