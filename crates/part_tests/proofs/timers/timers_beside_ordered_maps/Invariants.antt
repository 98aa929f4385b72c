use Rattle.std.proofs.Common.{◌≡◌, length}
use Rattle.part_tests.proofs.timers.timers_beside_ordered_maps.Given as goal

-- the room stays
abbrev pub invariant-loop : goal.invariant-loop
invariant-loop g l = length l.queue ≡ 64
