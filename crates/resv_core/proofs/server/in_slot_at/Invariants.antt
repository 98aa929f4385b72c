use Rattle.std.proofs.Common.{◌≡◌, drop}
use Rattle.std.specs.List.{find}
use Rattle.rt_rules.specs.Slots.{holds}
use Rattle.resv_core.proofs.server.in_slot_at.Given as goal

-- no slot so far holds it
abbrev pub invariant-loop-slot : goal.invariant-loop-slot
invariant-loop-slot l = find (holds l.t) (drop l.slot-index l.slots) ≡ find (holds l.t) l.slots
