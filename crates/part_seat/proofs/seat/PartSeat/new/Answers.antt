use Rattle.part_seat.proofs.SeatLaws.{unplayed-seat}
use Rattle.part_seat.proofs.seat.PartSeat.new.Goals as goal

pub invariant_of-result : goal.invariant_of-result
invariant_of-result g c = unplayed-seat g.N.Names.turns _ c.requires
