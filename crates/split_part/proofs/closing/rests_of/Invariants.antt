use Rattle.std.proofs.Common.{◌≡◌, ◌+◌, length, map, reverse, take, vec_len}
use Rattle.turn_cell.specs.Words.{StartsWith}
use Rattle.split_part.specs.Closings.{IsRestAt}
use Rattle.split_part.specs.Columns.{AreFrom}
use Rattle.split_part.specs.inside.Deals.{lists}
use Rattle.split_part.specs.Openings.{inboxes_at}
use Rattle.split_part.proofs.closing.rests_of.Given as goal

-- the inboxes from the next one on are closed
abbrev pub invariant-loop-inbox : goal.invariant-loop-inbox
invariant-loop-inbox g l = record {
  inboxes_are : l.inboxes.items ≡ inboxes_at l.takers.items;
  takers_are : StartsWith l.fn.takers.items l.takers.items;
  rows_are : lists l.rows.items ≡ map (take (length l.inboxes.items)) (lists l.fn.rows.items);
  rests_are : AreFrom (IsRestAt (lists l.fn.rows.items) l.fn.takers.items) (length l.inboxes.items) (lists (reverse l.rests.items));
  count : length l.inboxes.items + length l.rests.items ≡ length l.fn.takers.items;
}

abbrev pub decreases-loop-inbox : goal.decreases-loop-inbox
decreases-loop-inbox g l = vec_len l.inboxes
