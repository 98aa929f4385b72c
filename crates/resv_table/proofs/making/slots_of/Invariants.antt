use Rattle.std.proofs.Common.{◌≡◌, take}
use Rattle.resv_table.specs.Tables.{slots_from}
use Rattle.resv_table.proofs.making.slots_of.Given as goal

-- those of the reservations so far
abbrev pub invariant-loop-i : goal.invariant-loop-i
invariant-loop-i l = l.slots.items ≡ slots_from l.cluster.0 1 (take l.i l.resvs)
