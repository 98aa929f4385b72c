use Rattle.std.proofs.Common.{◌≡◌, ◌++◌, length, reverse}
use Rattle.split_part.specs.Closings.{HasTakenAt}
use Rattle.split_part.specs.Columns.{AreFrom}
use Rattle.split_part.specs.inside.Deals.{lists}
use Rattle.split_part.proofs.closing.take_rests.Given as goal

-- the partitions so far took what is left of their inboxes
abbrev pub invariant-loop-part : goal.invariant-loop-part
invariant-loop-part g l = record {
  gone : _;
  parts_are : l.fn.parts.items ≡ gone ++ l.part-iterator.rest.items;
  used : _;
  rests_are : lists (reverse l.fn.rests.items) ≡ used ++ lists (reverse l.rests.items);
  used_count : length used ≡ length gone;
  left_count : length l.rests.items ≡ length l.part-iterator.rest.items;
  count : length l.taken.items ≡ length gone;
  taken_are : AreFrom (HasTakenAt l.fn.parts.items (lists (reverse l.fn.rests.items))) 0 l.taken.items;
}
