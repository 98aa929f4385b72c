use Rattle.std.proofs.Common.{◌≡◌, length}
use Rattle.split_turns.specs.SplitTurns.{AreTurnsFrom}
use Rattle.split_turns.proofs.turns.SemTurns.open.Given as goal

abbrev pub invariant-loop-i : goal.invariant-loop-i
invariant-loop-i l = record {
  count : length l.turns.items ≡ l.i;
  each : AreTurnsFrom l.parts 1 l.turns.items;
}
