use Rattle.std.proofs.Common.{◌≡◌, ◌+◌, length, map, reverse, take}
use Rattle.split_part.specs.Columns.{AreFrom}
use Rattle.split_part.specs.inside.Deals.{lists}
use Rattle.split_part.specs.Openings.{IsOpenPart}
use Rattle.split_part.proofs.opening.partitions.Given as goal

-- the partitions from the next one on are open, and the rows have the seats of those before
abbrev pub invariant-loop-cpu : goal.invariant-loop-cpu
invariant-loop-cpu l = record {
  rows_are : lists l.rows.items ≡ map (take l.cpu) (lists l.fn.rows.items);
  parts_are : AreFrom (IsOpenPart l.setup (lists l.fn.rows.items)) l.cpu (reverse l.parts.items);
  count : l.cpu + length l.parts.items ≡ length l.setup.clusters;
}
