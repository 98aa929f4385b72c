use Rattle.std.proofs.Common.{◌≡◌}
use Rattle.cpu_site.proofs.driving.await_turn.Given as goal

abbrev pub invariant-loop : goal.invariant-loop
invariant-loop g l =
    (goal.iterator-loop g).can_next l.iterator' × (goal.iterator-loop g).is_finite l.iterator'
    × (l.turns.clock ≡ l.fn.turns.clock) × (l.turns.passes ≡ l.fn.turns.passes)
