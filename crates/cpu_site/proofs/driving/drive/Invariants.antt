use Rattle.std.proofs.Common.{◌≡◌}
use Rattle.turn_cell.specs.Words.{StartsWith}
use Rattle.cpu_site.proofs.driving.drive.Given as goal

abbrev pub invariant-loop : goal.invariant-loop
invariant-loop g l =
    (goal.iterator-loop g).can_next l.iterator' × (goal.iterator-loop g).is_finite l.iterator'
    × (l.seat.cell ≡ l.fn.seat.cell) × (l.seat.cpu ≡ l.fn.seat.cpu) × (l.seat.looks ≡ l.fn.seat.looks) × StartsWith l.seat.seen l.fn.seat.seen
