use Rattle.std.proofs.Common.{◌≡◌, ◌+◌, ◌++◌, map, drop}
use Rattle.std.specs.Prelude.{option_map, sum_by}
use Rattle.rt_task.specs.declared.Cluster.{Cluster}
use Rattle.cluster_table.specs.Clusters.{rows_from}
use Rattle.cluster_table.specs.Placed.{as_placed}
use Rattle.cluster_table.proofs.rows.states_of.Given as goal

abbrev pub invariant-loop-row : goal.invariant-loop-row
invariant-loop-row l = record {
  rest : l.states.items ++ map (option_map as_placed) (rows_from l.group.0 l.room l.first (drop l.row-index l.rows)) ≡ map (option_map as_placed) (rows_from l.group.0 l.room 0 l.rows);
  counted : l.first + sum_by (λ (k : Cluster). k.cpus) (drop l.row-index l.rows) ≡ sum_by (λ (k : Cluster). k.cpus) l.rows;
}
