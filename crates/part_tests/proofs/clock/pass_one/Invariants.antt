use Rattle.std.proofs.Common.{◌≡◌}
use Rattle.part_tests.proofs.clock.pass_one.Given as goal

abbrev pub invariant-loop : goal.invariant-loop
invariant-loop g l = record {
  clock : l.seat.clock ≡ l.initial.seat.clock;
  passes : l.seat.passes ≡ l.initial.seat.passes;
}
