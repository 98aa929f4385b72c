use Rattle.std.proofs.Common.{◌≡◌, ◌++◌, All, map}
use Rattle.part_seat.specs.PartSeats.{IsPartition}
use Rattle.split_part.specs.inside.Deals.{lists}
use Rattle.split_part.proofs.closing.histories_of.Given as goal

-- those so far are parted
abbrev pub invariant-loop-part : goal.invariant-loop-part
invariant-loop-part l = record {
  gone : _;
  parts_are : l.fn.parts.items ≡ gone ++ l.part-iterator.rest.items;
  histories_are : lists l.histories.items ≡ map (λ a. a.entries) gone;
  rows_are : lists l.rows.items ≡ map (λ a. a.seats) gone;
  kept : All IsPartition gone;
}
