-- What the code that counts a bound rests on.
use Rattle.std.specs.Prelude.{◌≡◌, ℕ, ◌+◌, ◌<◌, ◌≤◌, List, length, Option, None, Some, slice_index_or}
use Rattle.rt_base.specs.declared.TheConstants.{MOST_CPUS, MOST_TASKS}
use Rattle.rt_task.specs.declared.Parts.{Parts}
use Rattle.rt_model.specs.Group.{Group, no_cluster, no_task, users}

-- a set whose bounds can be counted
pub record CanBound (p : Parts) : Type 0 where
  pub few_tasks : length p.tasks ≤ MOST_TASKS
  pub few_cpus : (c : ℕ) → c < length p.clusters → (slice_index_or p.clusters c no_cluster).cpus ≤ MOST_CPUS
  pub homes : (i : ℕ) → i < length p.tasks → (slice_index_or p.tasks i no_task).cluster.0 < length p.clusters

-- the number of a task of the set
abbrev pub IsTaskOf : Parts → ℕ → Type 0
IsTaskOf p t = (1 ≤ t) × (t ≤ length p.tasks)

-- the number of a semaphore of the set
abbrev pub IsSemOf : Parts → ℕ → Type 0
IsSemOf p s = (1 ≤ s) × (s ≤ length p.sems)

-- at the numbers of semaphores how many tasks of the group declare them, where that was counted
pub record AreUserCounts (g : Group) (counts : List (Option ℕ)) : Type 0 where
  pub room : length counts ≡ length g.setup.sems + 1
  pub users_are : (s n : ℕ) → slice_index_or counts s None ≡ Some n → n ≡ length (users g s)
