use Rattle.std.proofs.Common.{◌≡◌, take}
use Rattle.split_part.specs.Columns.{AreBoth}
use Rattle.split_part.specs.inside.Deals.{lists}
use Rattle.split_part.specs.Openings.{IsFreshTaker, inboxes_at, posters_at}
use Rattle.split_part.proofs.opening.inboxes.Given as goal

-- those of the partitions so far are open
abbrev pub invariant-loop-part : goal.invariant-loop-part
invariant-loop-part g l = record {
  inboxes_are : l.inboxes.items ≡ inboxes_at l.takers.items;
  rows_are : lists l.rows.items ≡ posters_at l.takers.items;
  takers_are : AreBoth (IsFreshTaker l.quotas) (take l.part-index l.parts) l.takers.items;
}
