-- One cluster as the table keeps it: whether its links are placed.
use Rattle.std.specs.Prelude.{Bool, true}
use Rattle.cluster_table.specs.Clusters.{KeptCluster}

pub record PlacedCluster : Type 0 where
  pub cluster : KeptCluster
  pub is_placed : Bool

abbrev pub as_placed : KeptCluster → PlacedCluster
as_placed k = record { cluster = k; is_placed = true }
