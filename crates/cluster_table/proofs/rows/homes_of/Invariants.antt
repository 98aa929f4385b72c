use Rattle.std.proofs.Common.{◌≡◌, ◌++◌, drop}
use Rattle.cluster_table.specs.Clusters.{homes_from}
use Rattle.cluster_table.specs.Table.{cluster_numbers}
use Rattle.cluster_table.proofs.rows.homes_of.Given as goal

abbrev pub invariant-loop-c : goal.invariant-loop-c
invariant-loop-c l = cluster_numbers l.homes.items ++ homes_from l.c (drop l.c l.rows) ≡ homes_from 0 l.rows
