use Rattle.std.proofs.Common.{◌≡◌, ℕ, get_or, map, vec_len}
use Rattle.std.specs.Prelude.{None, option_map, vec_capacity}
use Rattle.cluster_table.specs.Clusters.{relinked}
use Rattle.cluster_table.specs.Marks.{IsUnmarked}
use Rattle.cluster_table.specs.Table.{AreListed, cluster_numbers, clusters_seen}
use Rattle.cluster_table.proofs.ClusterTable.place_changed.Given as goal

-- what placing each cluster makes of the table stays the same
abbrev pub invariant-loop-c : goal.invariant-loop-c
invariant-loop-c l = record {
  homes : l.self-inside.homes ≡ l.initial.self-inside.homes;
  relinked : map (option_map relinked) (clusters_seen l.self-inside.clusters.items) ≡ map (option_map relinked) (clusters_seen l.initial.self-inside.clusters.items);
  unmarked : (c : ℕ) → IsUnmarked l.placed c → IsUnmarked l.fn.placed c
      × (get_or (clusters_seen l.self-inside.clusters.items) c None ≡ get_or (clusters_seen l.initial.self-inside.clusters.items) c None);
  listed : AreListed l.self-inside.clusters.items (cluster_numbers l.self-inside.changed.items) (vec_capacity l.self-inside.changed);
}

abbrev pub decreases-loop-c : goal.decreases-loop-c
decreases-loop-c l = vec_len l.self-inside.changed
