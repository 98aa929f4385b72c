use Rattle.std.proofs.Common.{◌≡◌, ◌++◌, replicate}
use Rattle.cluster_table.specs.Table.{cluster_numbers}
use Rattle.cluster_table.proofs.rows.put_homes.Given as goal

abbrev pub invariant-loop : goal.invariant-loop
invariant-loop l = cluster_numbers l.homes.items ≡ cluster_numbers l.initial.homes.items ++ replicate l.counter l.c.0
