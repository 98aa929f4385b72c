use Rattle.std.proofs.Common.{◌≡◌}
use Rattle.part_seat.proofs.turns.spare.Given as goal

abbrev pub invariant-loop : goal.invariant-loop
invariant-loop g l = l.seat ≡ l.initial.seat
