use Rattle.std.proofs.Common.{◌≡◌}
use Rattle.split_part.specs.Splits.{IsSeatOf}
use Rattle.split_run.proofs.drive.driven.Given as goal

-- the seat is still that of the processor
abbrev pub invariant-loop : goal.invariant-loop
invariant-loop g l =
    (goal.iterator-loop g).can_next l.iterator' × (goal.iterator-loop g).is_finite l.iterator'
    × IsSeatOf l.split l.seat × (l.seat.part.cpu ≡ l.fn.seat.part.cpu)
