use Rattle.std.proofs.Common.{◌≡◌, ◌+◌, length, map, reverse, take, vec_len}
use Rattle.turn_cell.specs.Words.{StartsWith}
use Rattle.split_part.specs.Columns.{AreFrom}
use Rattle.split_part.specs.inside.Deals.{lists}
use Rattle.split_part.specs.Openings.{IsSeated}
use Rattle.split_part.proofs.opening.seated.Given as goal

-- the partitions from the next one on have their seats
abbrev pub invariant-loop-part : goal.invariant-loop-part
invariant-loop-part g l = record {
  parts_are : StartsWith l.fn.parts.items l.parts.items;
  takers_are : StartsWith l.fn.takers.items l.takers.items;
  same_count : length l.takers.items ≡ length l.parts.items;
  rows_are : lists l.rows.items ≡ map (take (length l.parts.items)) (lists l.fn.rows.items);
  seats_are : AreFrom (IsSeated l.fn.parts.items (lists l.fn.rows.items) l.fn.takers.items) (length l.parts.items) (reverse l.seats.items);
  count : length l.parts.items + length l.seats.items ≡ length l.fn.parts.items;
}

abbrev pub decreases-loop-part : goal.decreases-loop-part
decreases-loop-part g l = vec_len l.parts
