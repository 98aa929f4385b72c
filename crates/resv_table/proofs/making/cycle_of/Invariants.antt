use Rattle.std.proofs.Common.{◌≡◌, drop}
use Rattle.resv_table.specs.Tables.{cycle_of}
use Rattle.resv_table.proofs.making.cycle_of.Given as goal

-- none so far is a table of the cluster
abbrev pub invariant-loop-resv : goal.invariant-loop-resv
invariant-loop-resv l = cycle_of l.cluster.0 (drop l.resv-index l.resvs) ≡ cycle_of l.cluster.0 l.resvs
