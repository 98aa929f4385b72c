use Rattle.std.proofs.Common.{◌≡◌, ◌<◌, ◌++◌, All, length}
use Rattle.split_part.specs.inside.Deals.{IsPopped, lists}
use Rattle.split_part.proofs.deal.pop_each.Given as goal

-- the rows so far gave their last elements
abbrev pub invariant-loop-row : goal.invariant-loop-row
invariant-loop-row g l = record {
  gone : _;
  parts : l.fn.rows.items ≡ gone ++ l.row-iterator.rest.items;
  popped : IsPopped (lists gone) (lists l.rests.items) l.hand.items;
  full : All (λ row. 0 < length row.items) l.row-iterator.rest.items;
}
