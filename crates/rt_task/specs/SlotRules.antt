-- Slots of table reservations: what a reservation says of them, and which may share a cluster.
use Rattle.std.specs.List.{list_all}
use Rattle.std.specs.Prelude.{ℕ, ◌-◌, Bool, true, false, not, ◌&&◌, ◌||◌, ◌==◌, nat_lt, nat_le, List, [], ◌∷◌, length, sum_by}
use Rattle.rt_base.specs.declared.TheConstants.{MOST_SLOTS}
use Rattle.rt_task.specs.declared.ResvKind.{ResvKind}
use Rattle.rt_task.specs.declared.ResvKind.TheVariants.{Table}
use Rattle.rt_task.specs.declared.Slot.{Slot}
use Rattle.rt_task.specs.declared.draft.DraftResv.{DraftResv}
use Rattle.rt_task.specs.RuleWords.{within, is_empty}

-- no kind but a table has slots
abbrev pub may_have : ResvKind → List Slot → Bool
may_have Table slots = true
may_have _ slots = is_empty slots

-- each slot has a tick, begins where the one before it has ended or later, and ends with the cycle or before
abbrev pub slots_follow : ℕ → ℕ → List Slot → Bool
slots_follow start cycle [] = true
slots_follow start cycle (s ∷ ss) =
    nat_le start s.from && (nat_lt s.from s.to && (nat_le s.to cycle && slots_follow s.to cycle ss))

abbrev pub slots_length : List Slot → ℕ
slots_length slots = sum_by (λ (s : Slot). s.to - s.from) slots

abbrev pub is_table : ℕ → ℕ → List Slot → Bool
is_table cycle budget slots =
    within 1 MOST_SLOTS (length slots) && (slots_follow 0 cycle slots && budget == slots_length slots)

abbrev pub slots_in_range : ResvKind → ℕ → ℕ → List Slot → Bool
slots_in_range Table cycle budget slots = is_table cycle budget slots
slots_in_range _ cycle budget slots = true

-- two slots with a tick in common
abbrev pub overlap : Slot → Slot → Bool
overlap a b = nat_lt a.from b.to && nat_lt b.from a.to

abbrev pub stand_apart : List Slot → List Slot → Bool
stand_apart xs ys = list_all (λ a. list_all (λ b. not (overlap a b)) ys) xs

-- of two reservations of a cluster both are tables, of one cycle and with no tick in common, or neither is
abbrev pub fit_by : ResvKind → ResvKind → DraftResv → DraftResv → Bool
fit_by Table Table q r = q.period == r.period && stand_apart q.slots r.slots
fit_by Table _ q r = false
fit_by _ Table q r = false
fit_by _ _ q r = true

abbrev pub fit_together : DraftResv → DraftResv → Bool
fit_together q r = not (q.cluster == r.cluster) || fit_by q.kind r.kind q r
