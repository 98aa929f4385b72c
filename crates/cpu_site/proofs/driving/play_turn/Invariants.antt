use Rattle.std.proofs.Common.{◌≡◌}
use Rattle.turn_cell.specs.Words.{StartsWith}
use Rattle.tick_clock.specs.Clocks.{last_turn}
use Rattle.cpu_site.proofs.driving.play_turn.Given as goal

-- the turn that is played is the one that the clock shows
abbrev pub invariant-loop : goal.invariant-loop
invariant-loop g l =
    (goal.iterator-loop g).can_next l.iterator' × (goal.iterator-loop g).is_finite l.iterator'
    × (l.seat.cell ≡ l.fn.seat.cell) × (l.seat.cpu ≡ l.fn.seat.cpu) × (l.seat.looks ≡ l.fn.seat.looks) × StartsWith l.seat.seen l.fn.seat.seen
    × (l.turns.clock ≡ l.fn.turns.clock) × (l.turns.passes ≡ l.seat.turns) × (last_turn l.turns ≡ l.turns.passes) × (l.seat.turns ≡ l.fn.seat.turns)
