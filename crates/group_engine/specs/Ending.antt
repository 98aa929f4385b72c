-- The state as a move is written down, before it is ended: before the reservations are settled and the links placed.
use Rattle.std.specs.Prelude.{◌≡◌, ℕ, ◌+◌, ◌≤◌, ◌&&◌, Bool, true, List, length, Option, Some, is_none}
use Rattle.rt_base.specs.declared.TheConstants.{MOST_STEPS}
use Rattle.rt_rules.specs.declared.Key.{Key}
use Rattle.rt_rules.specs.Numbers.{has}
use Rattle.rt_rules.specs.Placing.{placed}
use Rattle.rt_model.specs.EffectiveKeys.{effective_key}
use Rattle.rt_model.specs.Group.{Group, clusters, cpus, first_cpu, tasks_of}
use Rattle.rt_model.specs.Holders.{awaits}
use Rattle.rt_model.specs.Links.{links, runs_of}
use Rattle.rt_model.specs.Past.{Past, entries_in}
use Rattle.rt_model.specs.Releases.{ready}
use Rattle.rt_model.specs.Tops.{is_admitted, top}
use Rattle.ready_queue.specs.ReadySet.{HoldsJust}
use Rattle.group_jobs.specs.Timers.{TimersAreKept}
use Rattle.cluster_table.specs.Clusters.{KeptCluster}
use Rattle.cluster_table.specs.Table.{Table, cluster_at}
use Rattle.group_resvs.specs.GroupResvs.{GroupResvs, IsSettled, is_served}
use Rattle.group_resvs.specs.Laws.{AreChanged}
use Rattle.group_core.specs.Facts.{Facts}
use Rattle.group_core.specs.Standing as core
use Rattle.group_engine.specs.declared.state.GroupState.{GroupState}
use Rattle.group_engine.specs.State.{AreHomes, IsFitAt}

-- a task's job is there and does not sleep, the task waits for no semaphore, and SRP admits it
abbrev pub stands : Group → ℕ → Past → Bool
stands g t past = ready g t past && (is_none (awaits g t past) && is_admitted g g.setup.plugin t past)

-- the tasks of a cluster that stand so and that these reservations serve, with their keys
abbrev pub HoldsStanding : Group → ℕ → Past → GroupResvs → List (Option Key) → Type 0
HoldsStanding g c past w keys = HoldsJust (tasks_of g c) (λ t. effective_key g t past) (λ t. stands g t past && is_served w t) keys

-- of a cluster these tasks, what its processors run, and links that become those of the past once they are placed
pub record IsClusterEnding (g : Group) (c : ℕ) (past : Past) (w : GroupResvs) (k : KeptCluster) : Type 0 where
  pub cpus_are : k.cpus ≡ cpus g c
  pub first_is : k.linked.first ≡ first_cpu g c
  pub room : length k.keys ≡ length g.setup.tasks + 1
  pub keys_are : HoldsStanding g c past w k.keys
  pub runs_are : k.linked.runs ≡ runs_of g c past
  pub links_become : placed (top g c past) (runs_of g c past) k.linked.links ≡ links g c past

pub record HasClusterEnding (g : Group) (c : ℕ) (past : Past) (w : GroupResvs) (t : Table) : Type 0 where
  pub cluster : KeptCluster
  pub there : cluster_at t c ≡ Some cluster
  pub is_ending : IsClusterEnding g c past w cluster

-- the facts are of this past, and their reservations serve each task that is not listed as changed as these did
pub record HaveEnded (g : Group) (past : Past) (w : GroupResvs) (f : Facts) : Type 0 where
  pub at : core.IsAt g past f
  pub fit : IsFitAt g past f
  pub changed : AreChanged g w f.resvs

-- the state is of this past of the group, once the move is ended
pub record IsEnding (g : Group) (past : Past) (s : GroupState) : Type 0 where
  pub few : entries_in past ≤ MOST_STEPS
  pub before : GroupResvs
  pub core_ends : (f : Facts) → f.kept ≡ s.core.facts.kept → f.sems ≡ s.core.facts.sems → IsSettled s.core.facts.resvs f.resvs
      → HaveEnded g past before f
  pub timers_are : TimersAreKept g past s.timers
  pub homes_are : AreHomes g s.clusters.homes
  pub clusters_are : (c : ℕ) → has c (clusters g) ≡ true → HasClusterEnding g c past before s.clusters
