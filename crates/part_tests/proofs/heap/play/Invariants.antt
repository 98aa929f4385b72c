use Rattle.std.proofs.Common.{◌≡◌, length}
use Rattle.part_tests.proofs.heap.play.Given as goal

-- the room stays
abbrev pub invariant-loop : goal.invariant-loop
invariant-loop g l = length l.heap.keys ≡ 64
