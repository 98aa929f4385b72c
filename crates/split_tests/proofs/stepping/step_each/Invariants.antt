use Rattle.split_part.specs.Splits.{AreSeatsOf}
use Rattle.split_tests.proofs.stepping.step_each.Given as goal

abbrev pub invariant-loop-digit : goal.invariant-loop-digit
invariant-loop-digit g l = AreSeatsOf l.split l.seats
