use Rattle.std.proofs.Common.{◌≡◌, ◌++◌, map, take}
use Rattle.resv_table.specs.Tables.{with_resv}
use Rattle.resv_table.proofs.making.push_slots.Given as goal

-- the slots so far
abbrev pub invariant-loop-slot : goal.invariant-loop-slot
invariant-loop-slot l = l.into.items ≡ l.fn.into.items ++ map (with_resv l.resv.0) (take l.slot-index l.slots)
