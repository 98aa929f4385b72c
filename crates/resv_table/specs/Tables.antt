-- The slots of a cluster, which come again in each cycle.
use Rattle.std.specs.Prelude.{◌≡◌, ◌==◌, ℕ, suc, ◌+◌, ◌-◌, ◌%◌, ◌<◌, ◌≤◌, Bool, true, false, ◌&&◌, List, [], ◌∷◌, ◌++◌, length, map}
use Rattle.std.specs.Prelude.{Option, None, Some, option_map, slice_index_or, if◌then◌else◌}
use Rattle.std.specs.List.{All, count_by, find, list_any}
use Rattle.rt_base.specs.declared.TheConstants.{TICK_END}
use Rattle.rt_task.specs.Validity.{IsValid}
use Rattle.rt_task.specs.declared.Parts.{Parts}
use Rattle.rt_task.specs.declared.Resv.{Resv}
use Rattle.rt_task.specs.declared.ResvKind.{ResvKind}
use Rattle.rt_task.specs.declared.ResvKind.TheVariants.{Table}
use Rattle.rt_task.specs.declared.Slot.{Slot}
use Rattle.rt_rules.specs.Slots as slots
use Rattle.rt_rules.specs.Slots.{holds}
use Rattle.resv_table.specs.declared.ResvSlot.{ResvSlot}
use Rattle.resv_table.specs.declared.Served.{Served}

pub record Slots : Type 0 where
  pub cycle : ℕ
  pub slots : List ResvSlot

abbrev pub start_of : ResvSlot → ℕ
start_of x = x.slot.from

abbrev pub end_of : ResvSlot → ℕ
end_of x = x.slot.to

-- whether its slot holds a tick, which is counted from where the cycle begins
abbrev pub has_tick : ℕ → ResvSlot → Bool
has_tick t x = holds t x.slot

-- slots of a cycle: there is one, each has a tick and ends with the cycle or before, and none has a tick of another
pub record AreSlots (cycle : ℕ) (slots : List ResvSlot) : Type 0 where
  pub short : cycle < TICK_END
  pub some : 1 ≤ length slots
  pub each : All (λ x. (start_of x < end_of x) × (end_of x ≤ cycle)) slots
  pub apart : (t : ℕ) → count_by (has_tick t) slots ≤ 1

-- the slot that holds a clock
abbrev pub slot_at : Slots → ℕ → Option ResvSlot
slot_at v clock = find (has_tick (clock % v.cycle)) v.slots

-- what is served in the slot that holds the clock
abbrev pub served_in : ℕ → ℕ → ResvSlot → Served
served_in cycle clock x = record {
  resv = x.resv;
  from = record { 0 = clock - clock % cycle + start_of x };
  left = end_of x - clock % cycle;
}

abbrev pub served_at : Slots → ℕ → Option Served
served_at v clock = option_map (served_in v.cycle clock) (slot_at v clock)

-- whether a slot begins at a clock
abbrev pub begins : Slots → ℕ → Bool
begins v clock = list_any (λ x. start_of x == clock % v.cycle) v.slots

-- ---- the table of a cluster

abbrev pub is_table : ResvKind → Bool
is_table Table = true
is_table _ = false

-- a table reservation of a cluster
abbrev pub is_table_of : ℕ → Resv → Bool
is_table_of c r = is_table r.kind && r.cluster.0 == c

abbrev pub with_resv : ℕ → Slot → ResvSlot
with_resv r s = record { resv = record { 0 = r }; slot = s }

-- those of reservation n, where it is one
abbrev pub slots_in : ℕ → ℕ → Resv → List ResvSlot
slots_in c n r = if is_table_of c r then map (with_resv n) r.slots else []

-- the slots of a cluster's table reservations, where reservations are numbered from n
abbrev pub slots_from : ℕ → ℕ → List Resv → List ResvSlot
slots_from c n [] = []
slots_from c n (r ∷ rs) = slots_in c n r ++ slots_from c (suc n) rs

-- their cycle
abbrev pub cycle_of : ℕ → List Resv → ℕ
cycle_of c [] = 0
cycle_of c (r ∷ rs) = if is_table_of c r then r.period else cycle_of c rs

abbrev pub table_of : Parts → ℕ → Slots
table_of p c = record { cycle = cycle_of c p.resvs; slots = slots_from c 1 p.resvs }

-- the slot, where it is one of a reservation
abbrev pub own : ℕ → Option ResvSlot → Option Slot
own r None = None
own r (Some x) = if x.resv.0 == r then Some x.slot else None

-- a table has a reservation's period for its cycle, and of its slots the one that holds a clock
pub record HasSlots (v : Slots) (n : ℕ) (r : Resv) : Type 0 where
  pub cycle_is : v.cycle ≡ r.period
  pub slot_is : (clock : ℕ) → own n (slot_at v clock) ≡ slots.slot_at r.period r.slots clock

-- So the table of a cluster of a valid set has for each of its table reservations.
abbrev pub EachHasItsSlots : Type 0
EachHasItsSlots =
    (p : Parts) → IsValid p → (i : ℕ) (d : Resv) → i < length p.resvs → (slice_index_or p.resvs i d).kind ≡ Table
    → HasSlots (table_of p (slice_index_or p.resvs i d).cluster.0) (suc i) (slice_index_or p.resvs i d)
