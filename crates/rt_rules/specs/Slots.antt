-- Slots of a cycle, in which a table reservation is served.
use Rattle.std.specs.Prelude.{ℕ, ◌+◌, ◌-◌, ◌%◌, Bool, ◌&&◌, nat_lt, nat_le, List, Option, None, Some}
use Rattle.std.specs.List.{find}
use Rattle.rt_task.specs.declared.Slot.{Slot}

-- whether a slot holds a tick, which is counted from where the cycle begins
abbrev pub holds : ℕ → Slot → Bool
holds t s = nat_le s.from t && nat_lt t s.to

-- the slot that holds the clock, which is counted from tick 0, modulo the cycle
abbrev pub slot_at : ℕ → List Slot → ℕ → Option Slot
slot_at cycle slots clock = find (holds (clock % cycle)) slots

-- the ticks from the clock up to the end of the slot that holds it, and the clock at which that slot began
abbrev pub left_in : ℕ → ℕ → Option Slot → ℕ
left_in cycle clock None = 0
left_in cycle clock (Some s) = s.to - clock % cycle

abbrev pub began_in : ℕ → ℕ → Option Slot → Option ℕ
began_in cycle clock None = None
began_in cycle clock (Some s) = Some (clock - clock % cycle + s.from)
