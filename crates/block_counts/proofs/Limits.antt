-- A valid set is one whose bounds can be counted.
use Rattle.std.proofs.Common.{arith}
use Rattle.std.proofs.lemmas.List.Sums.{get_or-le-sum_by}
use Rattle.rt_task.specs.declared.Cluster.{Cluster}
use Rattle.rt_task.specs.declared.Parts.{Parts}
use Rattle.rt_task.specs.Validity.{IsValid}
use Rattle.rt_model.specs.Group.{no_cluster}
use Rattle.rt_plays.proofs.SetLimits.{sets_are_in_limits}
use Rattle.block_counts.specs.Bounding.{CanBound}

pub can_bound : (p : Parts) → IsValid p → CanBound p
can_bound p valid =
    let limits = sets_are_in_limits p valid in
    record {
      few_tasks = limits.few_tasks;
      few_cpus = λ c low. omega (arith, get_or-le-sum_by (λ (k : Cluster). k.cpus) p.clusters c no_cluster low, limits.few_cpus);
      homes = λ i low. (limits.tasks_in i low).cluster_there;
    }
