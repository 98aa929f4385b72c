use Rattle.std.proofs.Common.{◌≡◌, length}
use Rattle.resv_core.specs.Known.{AreTables}
use Rattle.resv_core.proofs.opening.tables.Given as goal

-- the clusters so far
abbrev pub invariant-loop-c : goal.invariant-loop-c
invariant-loop-c l = record {
  numbers : length l.tables.items ≡ l.c;
  each : AreTables l.setup l.c l.tables.items;
}
