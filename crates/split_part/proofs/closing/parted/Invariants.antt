use Rattle.std.proofs.Common.{◌≡◌, ◌++◌, All, map}
use Rattle.part_seat.specs.PartSeats.{IsPartSeat}
use Rattle.split_part.specs.inside.Deals.{lists}
use Rattle.split_part.proofs.closing.parted.Given as goal

-- those so far are parted
abbrev pub invariant-loop-seat : goal.invariant-loop-seat
invariant-loop-seat g l = record {
  gone : _;
  seats_are : l.fn.seats.items ≡ gone ++ l.seat-iterator.rest.items;
  parts_are : l.parts.items ≡ map (λ a. a.part) gone;
  rows_are : lists l.rows.items ≡ map (λ a. a.posters) gone;
  takers_are : l.takers.items ≡ map (λ a. a.taker) gone;
  kept : All (IsPartSeat g.N.Names.turns) gone;
}
