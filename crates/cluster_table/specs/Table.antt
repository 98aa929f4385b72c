-- The clusters of a group, as contracts see them.
use Rattle.std.specs.Prelude.{◌≡◌, ℕ, ◌<◌, ◌≤◌, false, true, List, length, map, Option, None, Some, option_map, slice_index_or, slice_set}
use Rattle.rt_base.specs.declared.ClusterNo.{ClusterNo}
use Rattle.rt_rules.specs.Distinct.{IsDistinct}
use Rattle.rt_rules.specs.Numbers.{has}
use Rattle.link_table.specs.Linked.{IsOfCluster}
use Rattle.cluster_table.specs.Clusters.{KeptCluster, IsStable}
use Rattle.cluster_table.specs.Placed.{PlacedCluster}

-- the cluster of each processor of the set; and by its number each cluster of the group
pub record Table : Type 0 where
  pub homes : List ℕ
  pub clusters : List (Option KeptCluster)

abbrev pub cluster_numbers : List ClusterNo → List ℕ
cluster_numbers cs = map (λ (c : ClusterNo). c.0) cs

abbrev pub clusters_seen : List (Option PlacedCluster) → List (Option KeptCluster)
clusters_seen ks = map (option_map (λ (k : PlacedCluster). k.cluster)) ks

abbrev pub cluster_at : Table → ℕ → Option KeptCluster
cluster_at t c = slice_index_or t.clusters c None

-- one cluster is changed, and the others stay
abbrev pub changed_at : ℕ → (KeptCluster → KeptCluster) → Table → Table
changed_at c change t = record t { clusters = slice_set t.clusters c (option_map change (cluster_at t c)) }

-- the cluster is of the group
abbrev pub IsThere : Table → ℕ → Type 0
IsThere t c = (k : KeptCluster) × (cluster_at t c ≡ Some k)

-- and the processor is of the cluster
abbrev pub HasProcessor : Table → ℕ → ℕ → Type 0
HasProcessor t c q = (k : KeptCluster) × (cluster_at t c ≡ Some k) × IsOfCluster k.linked q

-- there is room for the task
abbrev pub HasTask : Table → ℕ → ℕ → Type 0
HasTask t c task = (k : KeptCluster) × (cluster_at t c ≡ Some k) × (task < length k.keys)

-- the clusters that are not placed are listed, each once
pub record AreListed (ks : List (Option PlacedCluster)) (changed : List ℕ) (room : ℕ) : Type 0 where
  pub once : IsDistinct changed
  pub inside : (c : ℕ) → has c changed ≡ true → c < length ks
  pub unplaced : (c : ℕ) (k : PlacedCluster) → has c changed ≡ true → slice_index_or ks c None ≡ Some k → k.is_placed ≡ false
  pub listed : (c : ℕ) (k : PlacedCluster) → slice_index_or ks c None ≡ Some k → k.is_placed ≡ false → has c changed ≡ true
  pub stable : (c : ℕ) (k : PlacedCluster) → slice_index_or ks c None ≡ Some k → k.is_placed ≡ true → IsStable k.cluster
  pub room_for_all : length ks ≤ room
