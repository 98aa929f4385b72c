-- What is known of the reservations before one, as code keeps it: of each cluster its cycle, and the slots that are taken, on one line.
use Rattle.std.specs.BTreeMap.{insert_entry}
use Rattle.std.specs.BTreeMap.Range.{entries_between}
use Rattle.std.specs.List.{list_all}
use Rattle.std.specs.Ordering.{nat_cmp}
use Rattle.std.specs.Prelude.{ℕ, ◌+◌, ◌*◌, ◌<◌, ◌≤◌, Bool, true, false, not, ◌&&◌, ◌||◌, ◌≡◌, ◌==◌, nat_eq, nat_lt, nat_le, List, [], ◌∷◌}
use Rattle.std.specs.Prelude.{fold, Option, None, Some}
use Rattle.std.specs.declared.ops.Bound.TheVariants.{Excluded, Unbounded}
use Rattle.rt_task.specs.declared.ResvKind.{ResvKind}
use Rattle.rt_task.specs.declared.ResvKind.TheVariants.{Table}
use Rattle.rt_task.specs.declared.Slot.{Slot}
use Rattle.rt_task.specs.declared.draft.DraftResv.{DraftResv}
use Rattle.rt_task.specs.RuleWords.{is_span}
use Rattle.rt_task.specs.SlotRules.{overlap, slots_in_range}
use Rattle.std.specs.HashMap.{get}
use Rattle.set_rules.specs.declared.rules.tables.Tables.{Tables}

-- whether the period and the slots of a reservation are in range
abbrev pub is_in_range : DraftResv → Bool
is_in_range r = is_span r.period && slots_in_range r.kind r.period r.budget r.slots

-- the cycle of a table, where its period is given
abbrev pub cycle_of : ResvKind → ℕ → Option ℕ
cycle_of Table period = Some period
cycle_of _ period = None

abbrev pub slots_of : ResvKind → List Slot → List Slot
slots_of Table slots = slots
slots_of _ slots = []

abbrev pub same_cycle : Option ℕ → Option ℕ → Bool
same_cycle None None = true
same_cycle (Some a) (Some b) = a == b
same_cycle _ _ = false

-- whether a cluster, whose earlier reservations have the one cycle where there are any, has room for another
abbrev pub allows : Option (Option ℕ) → Option ℕ → Bool
allows None cycle = true
allows (Some c) cycle = same_cycle c cycle

-- a tick of a cluster on the line, on which each cluster has a stretch of its own
abbrev pub on_line : ℕ → ℕ → ℕ
on_line cluster tick = cluster * 18446744073709551616 + tick

-- a slot on the line: its end, and where it begins
abbrev pub placed : ℕ → Slot → ℕ × ℕ
placed cluster s = (on_line cluster s.to, on_line cluster s.from)

abbrev pub begins_from : ℕ → List (ℕ × ℕ) → Bool
begins_from end [] = true
begins_from end (e ∷ es) = nat_le end e.1

-- whether the first of those that end after its begin begins at its end or later
abbrev pub is_free : List (ℕ × ℕ) → ℕ × ℕ → Bool
is_free es p = begins_from p.0 (entries_between nat_cmp (Excluded p.1) Unbounded es)

abbrev pub with_entry : List (ℕ × ℕ) → ℕ × ℕ → List (ℕ × ℕ)
with_entry es p = insert_entry nat_cmp es p.0 p.1

abbrev pub has_room : List (ℕ × ℕ) → ℕ → List Slot → Bool
has_room es cluster slots = list_all (λ s. is_free es (placed cluster s)) slots

abbrev pub with_slots : List (ℕ × ℕ) → ℕ → List Slot → List (ℕ × ℕ)
with_slots es cluster slots = fold (λ es s. with_entry es (placed cluster s)) es slots

-- each begins where the one before it has ended or later, the first at start or later
abbrev pub IsApart : ℕ → List (ℕ × ℕ) → Type 0
IsApart start [] = Unit {0}
IsApart start (e ∷ es) = (start ≤ e.1) × (e.1 < e.0) × IsApart e.0 es

-- whether two have no tick in common
abbrev pub are_apart : ℕ × ℕ → ℕ × ℕ → Bool
are_apart p e = not (nat_lt e.1 p.0 && nat_lt p.1 e.0)

abbrev pub stands_apart : List (ℕ × ℕ) → ℕ × ℕ → Bool
stands_apart es p = list_all (are_apart p) es

-- whether a slot of a cluster stands apart from those of a reservation
abbrev pub stands_off : ℕ → Slot → DraftResv → Bool
stands_off cluster a q = not (q.cluster == cluster) || list_all (λ (b : Slot). not (overlap b a)) (slots_of q.kind q.slots)

-- whether a reservation is of another cluster, or of this cycle
abbrev pub turns_with : ℕ → Option ℕ → DraftResv → Bool
turns_with cluster cycle q = not (q.cluster == cluster) || same_cycle (cycle_of q.kind q.period) cycle

-- what is kept is what the earlier reservations say
pub record Knows (t : Tables) (earlier : List DraftResv) : Type 0 where
  pub cycles : (c : ℕ) (cycle : Option ℕ) → allows (get nat_eq t.cycles c) cycle ≡ list_all (turns_with c cycle) earlier
  pub in_order : IsApart 0 t.taken.entries
  pub slots : (c : ℕ) (a : Slot) → a.to < 18446744073709551616
      → stands_apart t.taken.entries (placed c a) ≡ list_all (stands_off c a) earlier
