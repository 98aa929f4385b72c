-- What the engine keeps of its group, tied to the past by concern.
use Rattle.std.specs.Prelude.{◌≡◌, ℕ, ◌+◌, ◌-◌, ◌<◌, ◌≤◌, true, List, length, Some, slice_index}
use Rattle.rt_base.specs.declared.TheConstants.{MOST_STEPS}
use Rattle.rt_rules.specs.Numbers.{has}
use Rattle.rt_model.specs.Group.{Group, cluster_with, clusters, cpus, first_cpu}
use Rattle.rt_model.specs.Links.{links, runs_of}
use Rattle.rt_model.specs.Past.{Past, entries_in}
use Rattle.rt_plays.specs.Homes.{IsProcessorOf}
use Rattle.rt_changes.specs.Clusters.{HoldsEligible}
use Rattle.group_jobs.specs.Timers.{TimersAreKept}
use Rattle.cluster_table.specs.Clusters.{KeptCluster}
use Rattle.cluster_table.specs.Table.{Table, cluster_at}
use Rattle.group_core.specs.Facts.{Facts}
use Rattle.group_core.specs.Standing as core
use Rattle.group_engine.specs.declared.state.GroupState.{GroupState}

-- of a cluster its eligible tasks with their keys, what its processors run and what they are linked to
pub record IsClusterAt (g : Group) (c : ℕ) (past : Past) (k : KeptCluster) : Type 0 where
  pub cpus_are : k.cpus ≡ cpus g c
  pub first_is : k.linked.first ≡ first_cpu g c
  pub room : length k.keys ≡ length g.setup.tasks + 1
  pub keys_are : HoldsEligible g c past k.keys
  pub runs_are : k.linked.runs ≡ runs_of g c past
  pub links_are : k.linked.links ≡ links g c past

-- it is in the table
pub record HasClusterAt (g : Group) (c : ℕ) (past : Past) (t : Table) : Type 0 where
  pub cluster : KeptCluster
  pub there : cluster_at t c ≡ Some cluster
  pub is_at : IsClusterAt g c past cluster

-- the cluster of each processor
pub record AreHomes (g : Group) (homes : List ℕ) : Type 0 where
  pub there : (q : ℕ) → IsProcessorOf g q → q < length homes
  pub are : (q : ℕ) → IsProcessorOf g q → slice_index homes q ≡ cluster_with g q

-- how many more acts there may be within the limit of steps
abbrev pub acts_left : Past → ℕ
acts_left past = MOST_STEPS - entries_in past

-- the facts are within the limits for as many acts
abbrev pub IsFitAt : Group → Past → Facts → Type 0
IsFitAt g past f = core.IsFit g f (acts_left past) (acts_left past)

-- the state is of this past of the group, which is within the limit of steps
pub record IsAt (g : Group) (past : Past) (s : GroupState) : Type 0 where
  pub few : entries_in past ≤ MOST_STEPS
  pub core_at : core.IsAt g past s.core.facts
  pub core_fit : IsFitAt g past s.core.facts
  pub timers_are : TimersAreKept g past s.timers
  pub homes_are : AreHomes g s.clusters.homes
  pub clusters_are : (c : ℕ) → has c (clusters g) ≡ true → HasClusterAt g c past s.clusters
