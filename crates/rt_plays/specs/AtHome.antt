-- Where a group's processors and tasks are, and which groups there are.
use Rattle.std.specs.Prelude.{◌≡◌, ◌↔◌, ℕ, ◌+◌, ◌<◌, ◌≤◌, true, length}
use Rattle.rt_task.specs.declared.Parts.{Parts}
use Rattle.rt_task.specs.Validity.{IsValid}
use Rattle.rt_rules.specs.Numbers.{has}
use Rattle.rt_model.specs.Group.{Group, cluster_with, clusters, cpus, first_cpu, home, tasks, tasks_of}
use Rattle.rt_plays.specs.Homes.{IsProcessorOf}
use Rattle.rt_plays.specs.Plays.{group_count}
use Rattle.rt_plays.specs.Groups.{IsGroupOf}

-- the groups of a valid setup are those below their number
abbrev pub GroupsAreCounted : Type 0
GroupsAreCounted = (p : Parts) (n : ℕ) → IsValid p → (IsGroupOf p n) ↔ (n < group_count p)

-- a processor of the cluster, which is of the group
pub record IsAtHome (g : Group) (q c : ℕ) : Type 0 where
  pub cluster_there : has c (clusters g) ≡ true
  pub inside : c < length g.setup.clusters
  pub low : first_cpu g c ≤ q
  pub high : q < first_cpu g c + cpus g c

abbrev pub ProcessorsAreAtHome : Type 0
ProcessorsAreAtHome = (g : Group) (q : ℕ) → IsProcessorOf g q → IsAtHome g q (cluster_with g q)

-- a task of its cluster, which is of the group
pub record IsHomeTask (g : Group) (t : ℕ) : Type 0 where
  pub low : 1 ≤ t
  pub high : t ≤ length g.setup.tasks
  pub cluster_there : has (home g t) (clusters g) ≡ true
  pub member : has t (tasks_of g (home g t)) ≡ true

abbrev pub TasksAreAtHome : Type 0
TasksAreAtHome = (g : Group) (t : ℕ) → IsValid g.setup → has t (tasks g) ≡ true → IsHomeTask g t
