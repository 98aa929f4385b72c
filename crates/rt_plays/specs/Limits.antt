-- The numbers of a valid setup are within the limits.
use Rattle.std.specs.Prelude.{◌≡◌, ℕ, ◌+◌, ◌<◌, ◌≤◌, length, slice_index_or}
use Rattle.rt_base.specs.declared.TheConstants.{MOST_CLUSTERS, MOST_CPUS, MOST_RESVS, MOST_TASKS, TICK_END}
use Rattle.rt_task.specs.declared.Parts.{Parts}
use Rattle.rt_task.specs.declared.Task.{Task}
use Rattle.rt_task.specs.Validity.{IsValid}
use Rattle.rt_model.specs.Group.{no_cluster, no_task}
use Rattle.rt_plays.specs.Room.{processor_count}

-- the task of this number, in a set with so many clusters
pub record IsTaskInLimits (number clusters : ℕ) (t : Task) : Type 0 where
  pub number_is : t.number.0 ≡ number
  pub cluster_there : t.cluster.0 < clusters
  pub phase_low : t.phase < TICK_END
  pub period_low : t.period < TICK_END
  pub deadline_low : t.rel_deadline < TICK_END
  pub cost_low : t.cost < TICK_END

pub record IsInLimits (p : Parts) : Type 0 where
  pub few_clusters : length p.clusters ≤ MOST_CLUSTERS
  pub few_cpus : processor_count p ≤ MOST_CPUS
  pub few_tasks : length p.tasks ≤ MOST_TASKS
  pub few_resvs : length p.resvs ≤ MOST_RESVS
  pub has_cpus : (c : ℕ) → c < length p.clusters → 1 ≤ (slice_index_or p.clusters c no_cluster).cpus
  pub tasks_in : (i : ℕ) → i < length p.tasks → IsTaskInLimits (i + 1) (length p.clusters) (slice_index_or p.tasks i no_task)

abbrev pub SetsAreInLimits : Type 0
SetsAreInLimits = (p : Parts) → IsValid p → IsInLimits p
