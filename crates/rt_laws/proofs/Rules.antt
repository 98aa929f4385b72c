-- What the laws use of a valid setup.
use Rattle.std.specs.Prelude.{length, false, true, ℕ, ◌<◌, ◌≡◌, ◌≤◌}
use Rattle.rt_task.specs.RuleWords.{is_fmlp, is_of_one_cluster, is_partitioned, stands_under}
use Rattle.rt_task.specs.declared.Kind.TheVariants.{Periodic}
use Rattle.rt_task.specs.declared.Protocol.TheVariants.{Srp}
use Rattle.rt_task.specs.declared.ResvKind.TheVariants.{Sporadic}
use Rattle.rt_rules.specs.Numbers.{has}
use Rattle.rt_model.specs.Group.{Group, cpus, declares, home, protocol, resv, sems, task, tasks, users}

-- the setup of a group keeps the rules
pub record MeetsRules (g : Group) : Type 0 where
  -- there is a cluster, each cluster has a processor, and a task's cluster is there
  pub has_cluster : 1 ≤ length g.setup.clusters
  pub has_cpu : (c : ℕ) → c < length g.setup.clusters → 1 ≤ cpus g c
  pub has_home : (t : ℕ) → has t (tasks g) ≡ true → home g t < length g.setup.clusters
  -- each task has a cost, an early one is periodic, and the semaphores that it declares are there
  pub has_cost : (t : ℕ) → has t (tasks g) ≡ true → 1 ≤ (task g t).cost
  pub is_periodic : (t : ℕ) → (task g t).early ≡ true → (task g t).kind ≡ Periodic
  pub is_known : (t s : ℕ) → has t (tasks g) ≡ true → declares g t s ≡ true → has s (sems g) ≡ true
  -- a sporadic reservation has a period
  pub has_period : (r : ℕ) → (resv g r).kind ≡ Sporadic → 1 ≤ (resv g r).period
  -- each protocol stands under its plugins, and where its users share a cluster they do
  pub is_allowed : (s : ℕ) → has s (sems g) ≡ true → stands_under (protocol g s) g.setup.plugin ≡ true
  pub is_single : (c : ℕ) → is_partitioned g.setup.plugin ≡ true → c < length g.setup.clusters → cpus g c ≡ 1
  -- where a task declares an SRP semaphore, no task of its cluster declares an FMLP semaphore
  pub apart : (s r t u : ℕ) → protocol g s ≡ Srp → has t (users g s) ≡ true → has u (tasks g) ≡ true → home g u ≡ home g t → declares g u r ≡ true → is_fmlp (protocol g r) ≡ false
  pub shares : (s t u : ℕ) → is_of_one_cluster (protocol g s) g.setup.plugin ≡ true → has t (users g s) ≡ true → has u (users g s) ≡ true → home g t ≡ home g u
