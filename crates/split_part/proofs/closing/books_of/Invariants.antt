use Rattle.std.proofs.Common.{◌≡◌, ◌+◌, All, drop, length, map, reverse, take, vec_len}
use Rattle.turn_cell.specs.Words.{StartsWith}
use Rattle.split_part.specs.Closings.{IsTold}
use Rattle.split_part.specs.Columns.{AreBoth}
use Rattle.split_part.specs.inside.Deals.{lists}
use Rattle.split_part.proofs.closing.books_of.Given as goal

-- the turns from the next one on are closed
abbrev pub invariant-loop-turn : goal.invariant-loop-turn
invariant-loop-turn l = record {
  turns_are : StartsWith l.fn.turns.items l.turns.items;
  rows_are : lists l.rows.items ≡ map (take (length l.turns.items)) (lists l.fn.rows.items);
  told : All (λ row. AreBoth IsTold (drop (length l.turns.items) row) (lists (reverse l.books.items))) (lists l.fn.rows.items);
  count : length l.turns.items + length l.books.items ≡ length l.fn.turns.items;
}

abbrev pub decreases-loop-turn : goal.decreases-loop-turn
decreases-loop-turn l = vec_len l.turns
