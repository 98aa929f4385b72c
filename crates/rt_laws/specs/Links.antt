-- Links: each task has one processor at most, and that is of its cluster.
use Rattle.std.specs.Prelude.{◌≡◌, ◌↔◌, ℕ, ◌≤◌, length, true, Some}
use Rattle.rt_rules.specs.Numbers.{has}
use Rattle.rt_rules.specs.Placing.{tasks_in}
use Rattle.rt_model.specs.Group.{Group, cpus, home, cluster_with, processors}
use Rattle.rt_model.specs.Links.{links, linked}
use Rattle.rt_model.specs.Past.{Past}
use Rattle.rt_model.specs.Runs.{runs}
use Rattle.rt_laws.specs.EveryPast.{EveryPast}

-- No task runs on two processors.
abbrev pub RunsOnOne : Type 0
RunsOnOne = EveryPast (λ g past. (p q t : ℕ) → runs p past ≡ Some t → runs q past ≡ Some t → p ≡ q)

-- No task is linked to two processors.
abbrev pub LinkedToOne : Type 0
LinkedToOne = EveryPast (λ g past. (p q t : ℕ) → linked g p past ≡ Some t → linked g q past ≡ Some t → p ≡ q)

-- A processor runs tasks of its own cluster alone.
abbrev pub RunsAtHome : Type 0
RunsAtHome = EveryPast (λ g past. (q t : ℕ) → runs q past ≡ Some t → cluster_with g q ≡ home g t)

-- A processor is linked to tasks of its own cluster alone.
abbrev pub LinkedAtHome : Type 0
LinkedAtHome = EveryPast (λ g past. (q t : ℕ) → linked g q past ≡ Some t → cluster_with g q ≡ home g t)

-- a processor of a cluster that is linked to a task
pub record HasLinkTo (g : Group) (c t : ℕ) (past : Past) : Type 0 where
  pub cpu : ℕ
  pub there : has cpu (processors g c) ≡ true
  pub linked_it : linked g cpu past ≡ Some t

-- A task is among the links of a cluster exactly where one of its processors is linked to it.
abbrev pub LinksAreLinked : Type 0
LinksAreLinked = EveryPast (λ g past. (c t : ℕ) → (has t (tasks_in (links g c past)) ≡ true) ↔ HasLinkTo g c t past)

-- No more tasks are linked than the cluster has processors.
abbrev pub LinksFit : Type 0
LinksFit = EveryPast (λ g past. (c : ℕ) → length (tasks_in (links g c past)) ≤ cpus g c)
