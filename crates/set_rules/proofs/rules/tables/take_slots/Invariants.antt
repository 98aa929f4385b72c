use Rattle.std.proofs.Common.{◌≡◌, take}
use Rattle.set_rules.specs.inside.Tables.{with_slots}
use Rattle.set_rules.proofs.rules.tables.take_slots.Given as goal

-- with the slots so far
abbrev pub invariant-loop-s : goal.invariant-loop-s
invariant-loop-s l = l.taken.entries ≡ with_slots l.initial.taken.entries l.cluster (take l.s-index l.slots)
