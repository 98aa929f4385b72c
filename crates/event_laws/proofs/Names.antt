-- What the rules of a set say of the names and the reservations of a group.
use Rattle.std.proofs.Common.{◌≡◌, ℕ, zero, suc, ◌+◌, ◌-◌, ◌%◌, ◌<◌, ◌≤◌, Bool, true, false, ◌&&◌, ◌||◌, List, [], ◌∷◌, ◌++◌, length, map, refl, sym, ap, ◌∙◌, arith, cond, eqb-true, subst, leb-true}
use Rattle.std.specs.Prelude.{Option, None, Some, find, slice_index_or, ◌==◌, nat_le, nat_lt, if◌then◌else◌, is_some, not}
use Rattle.std.specs.List.{list_all}
use Rattle.std.proofs.lemmas.Bool.{and_parts}
use Rattle.json.proofs.Printed.Strings.{escape_byte_plain}
use Rattle.rt_base.specs.declared.TheConstants.{MOST_SLOTS, TICK_END}
use Rattle.rt_task.specs.Draft.{draft_of, draft_resv}
use Rattle.rt_task.specs.NameRules.{resv_name, sem_name}
use Rattle.rt_task.specs.RangeRules.{resv_range}
use Rattle.rt_task.specs.Refusals.{first_failing}
use Rattle.rt_task.specs.RuleWords.{is_name, is_name_byte, is_prio, is_span, within}
use Rattle.rt_task.specs.SlotRules.{slots_follow, slots_in_range, slots_length}
use Rattle.rt_task.specs.Validity.{IsValid, refusal_of}
use Rattle.rt_task.specs.declared.Parts.{Parts}
use Rattle.rt_task.specs.declared.Resv.{Resv}
use Rattle.rt_task.specs.declared.ResvKind.{ResvKind}
use Rattle.rt_task.specs.declared.ResvKind.TheVariants.{Polling, Sporadic, Table}
use Rattle.rt_task.specs.declared.Sem.{Sem}
use Rattle.rt_task.specs.declared.Slot.{Slot}
use Rattle.rt_task.specs.declared.Task.{Task}
use Rattle.rt_task.specs.declared.draft.DraftResv.{DraftResv}
use Rattle.rt_rules.specs.Slots.{left_in, slot_at}
use Rattle.rt_model.specs.Group.{Group, no_resv, no_sem, no_task, resv, sem, task}
use Rattle.rt_model.specs.Past.{Past, now}
use Rattle.rt_model.specs.Reservations.{is_lost, left, left_by, refilled, slot_now, spent}
use Rattle.set_laws.proofs.KnownLaws.{names_task}
use Rattle.set_laws.proofs.Passing.{Rows, passed, rows, within_parts}
use Rattle.set_laws.proofs.WholeLaws.{canonical_plan}
use Rattle.event_laws.proofs.Events.{Each}
use Rattle.event_laws.proofs.Groups.{IsLow, NamesArePlain}
use Rattle.event_laws.proofs.Pieces.{ArePlain, IsPlain, plain-bytes}

-- what each element has by a rule of the set
by-rule : {A B : Type 0} (rule : List B → B → Bool) (f : A → B) (P : A → Type 0) → ((e : List B) (x : A) → rule e (f x) ≡ true → P x)
    → (e : List B) (xs : List A) → first_failing rule e (map f xs) ≡ None → Each P xs
by-rule rule f P step e [] h = tt
by-rule rule f P step e (x ∷ xs) h = let a = passed rule e (f x) (map f xs) h in (step e x a.0, by-rule rule f P step (e ++ f x ∷ []) xs a.1)

each-at : {A : Type 0} (P : A → Type 0) (d : A) → P d → (xs : List A) → Each P xs → (i : ℕ) → P (slice_index_or xs i d)
each-at P d h [] each i = h
each-at P d h (x ∷ xs) each zero = each.0
each-at P d h (x ∷ xs) each (suc i) = each-at P d h xs each.1 i

-- ---- names

byte-range : (b : ℕ) → is_name_byte b ≡ true → (32 ≤ b) × (b ≡ 34 → ⊥) × (b ≡ 92 → ⊥)
byte-range b h = by_digit (within 48 57 b) refl
  where
    by_dash : (x : Bool) → (b == 95) ≡ x → (x || b == 45) ≡ true → (32 ≤ b) × (b ≡ 34 → ⊥) × (b ≡ 92 → ⊥)
    by_dash true e k = let n = eqb-true b 95 e in (omega arith, λ a. omega arith, λ a. omega arith)
    by_dash false e k = let n = eqb-true b 45 k in (omega arith, λ a. omega arith, λ a. omega arith)

    by_small : (x : Bool) → within 97 122 b ≡ x → (x || (b == 95 || b == 45)) ≡ true → (32 ≤ b) × (b ≡ 34 → ⊥) × (b ≡ 92 → ⊥)
    by_small true e k = let n = within_parts 97 122 b e in (omega arith, λ a. omega arith, λ a. omega arith)
    by_small false e k = by_dash (b == 95) refl k

    by_capital : (x : Bool) → within 65 90 b ≡ x → (x || (within 97 122 b || (b == 95 || b == 45))) ≡ true → (32 ≤ b) × (b ≡ 34 → ⊥) × (b ≡ 92 → ⊥)
    by_capital true e k = let n = within_parts 65 90 b e in (omega arith, λ a. omega arith, λ a. omega arith)
    by_capital false e k = by_small (within 97 122 b) refl k

    by_digit : (x : Bool) → within 48 57 b ≡ x → (32 ≤ b) × (b ≡ 34 → ⊥) × (b ≡ 92 → ⊥)
    by_digit true e = let n = within_parts 48 57 b e in (omega arith, λ a. omega arith, λ a. omega arith)
    by_digit false e = by_capital (within 65 90 b) refl (ap (λ y. y || (within 65 90 b || (within 97 122 b || (b == 95 || b == 45)))) (sym e) ∙ h)

bytes-plain : (s : List ℕ) → list_all is_name_byte s ≡ true → ArePlain s
bytes-plain [] h = tt
bytes-plain (b ∷ s) h =
    let a = and_parts (is_name_byte b) (list_all is_name_byte s) h in
    let range = byte-range b a.0 in
    (escape_byte_plain b range.1 range.2 range.0, bytes-plain s a.1)

name-plain : (s : List ℕ) → is_name s ≡ true → IsPlain s
name-plain s h = plain-bytes s (bytes-plain s (and_parts (within 1 32 (length s)) (list_all is_name_byte s) h).1)

set-rows : (p : Parts) → IsValid p → Rows (draft_of p)
unfolding refusal_of
set-rows p valid = rows (draft_of p) valid

map-same : {A : Type 0} (xs : List A) → map (λ x. x) xs ≡ xs
map-same [] = refl
map-same (x ∷ xs) = ap (λ l. x ∷ l) (map-same xs)

pub names-plain : (g : Group) → IsValid g.setup → NamesArePlain g
unfolding task sem resv sem_name resv_name
names-plain g valid =
    let p : Parts = g.setup in
    let r = set-rows p valid in
    record {
      tasks_are = λ t. each-at (λ (x : Task). IsPlain x.name) no_task refl p.tasks
          (by-rule _ canonical_plan (λ (x : Task). IsPlain x.name) (λ e x k. name-plain x.name (names_task p e (canonical_plan x) k).form) [] p.tasks r.tasks_named) (t - 1);
      sems_are = λ s. each-at (λ (x : Sem). IsPlain x.name) no_sem refl p.sems
          (by-rule (sem_name (draft_of p)) (λ (x : Sem). x) (λ (x : Sem). IsPlain x.name) (λ e x k. name-plain x.name (and_parts _ _ k).0) [] p.sems
          (ap (first_failing (sem_name (draft_of p)) []) (map-same p.sems) ∙ r.sems_named)) (s - 1);
      resvs_are = λ q. each-at (λ (x : Resv). IsPlain x.name) no_resv refl p.resvs
          (by-rule (resv_name (draft_of p)) draft_resv (λ (x : Resv). IsPlain x.name) (λ e x k. name-plain x.name (and_parts _ _ k).0) [] p.resvs r.resvs_named) (q - 1);
    }

-- ---- reservations

abbrev SlotsAreSmall : ResvKind → List Slot → Type 0
SlotsAreSmall Table ss = Each (λ (s : Slot). s.to < TICK_END) ss
SlotsAreSmall _ ss = Unit {0}

record ResvIsSmall (r : Resv) : Type 0 where
  budget : r.budget < TICK_END
  slots : SlotsAreSmall r.kind r.slots

slots-small : (start cycle : ℕ) (ss : List Slot) → cycle < TICK_END → slots_follow start cycle ss ≡ true → Each (λ (s : Slot). s.to < TICK_END) ss
slots-small start cycle [] low h = tt
slots-small start cycle (s ∷ ss) low h =
    let a = and_parts (nat_le start s.from) (nat_lt s.from s.to && (nat_le s.to cycle && slots_follow s.to cycle ss)) h in
    let b = and_parts (nat_lt s.from s.to) (nat_le s.to cycle && slots_follow s.to cycle ss) a.1 in
    let c = and_parts (nat_le s.to cycle) (slots_follow s.to cycle ss) b.1 in
    (omega (arith, leb-true s.to cycle c.0), slots-small s.to cycle ss low c.1)

kind-small : (k : ResvKind) (cycle budget : ℕ) (ss : List Slot) → cycle < TICK_END → slots_in_range k cycle budget ss ≡ true → SlotsAreSmall k ss
kind-small Polling cycle budget ss low h = tt
kind-small Sporadic cycle budget ss low h = tt
kind-small Table cycle budget ss low h =
    let a = and_parts (within 1 MOST_SLOTS (length ss)) (slots_follow 0 cycle ss && budget == slots_length ss) h in
    slots-small 0 cycle ss low (and_parts (slots_follow 0 cycle ss) (budget == slots_length ss) a.1).0

resv-small : (p : Parts) (e : List DraftResv) (r : Resv) → resv_range (draft_of p) e (draft_resv r) ≡ true → ResvIsSmall r
unfolding resv_range
resv-small p e r h =
    let a = and_parts (is_span r.period) (within 1 r.period r.budget && (is_prio r.prio && (nat_lt r.cluster.0 (length (draft_of p).clusters) && slots_in_range r.kind r.period r.budget r.slots))) h in
    let b = and_parts (within 1 r.period r.budget) (is_prio r.prio && (nat_lt r.cluster.0 (length (draft_of p).clusters) && slots_in_range r.kind r.period r.budget r.slots)) a.1 in
    let c = and_parts (is_prio r.prio) (nat_lt r.cluster.0 (length (draft_of p).clusters) && slots_in_range r.kind r.period r.budget r.slots) b.1 in
    let d = and_parts (nat_lt r.cluster.0 (length (draft_of p).clusters)) (slots_in_range r.kind r.period r.budget r.slots) c.1 in
    let span = within_parts 1 (TICK_END - 1) r.period a.0 in
    let budget = within_parts 1 r.period r.budget b.0 in
    record { budget = omega arith; slots = kind-small r.kind r.period r.budget r.slots (omega arith) d.1 }

found-small : (test : Slot → Bool) (ss : List Slot) (o : Option Slot) → find test ss ≡ o → Each (λ (s : Slot). s.to < TICK_END) ss → (cycle clock : ℕ) → left_in cycle clock o < TICK_END
found-small test ss None is h cycle clock = omega arith
found-small test [] (Some s) is h cycle clock = cc
found-small test (x ∷ xs) (Some s) is h cycle clock = by_case (test x) is (λ later. found-small test xs (Some s) later h.1 cycle clock)
  where
    by_case : (b : Bool) → cond b (Some x) (find test xs) ≡ Some s → (find test xs ≡ Some s → left_in cycle clock (Some s) < TICK_END) → left_in cycle clock (Some s) < TICK_END
    by_case true found later = let same : x ≡ s = cc in let low : s.to < TICK_END = subst (λ (y : Slot). y.to < TICK_END) same h.0 in omega (arith, low)
    by_case false found later = later found

left-low : (b : Bool) (budget units : ℕ) → budget < TICK_END → (if b then budget - units else 0) < TICK_END
left-low true budget units h = omega (arith, h)
left-low false budget units h = omega arith

pub lefts-small : (g : Group) → IsValid g.setup → (r : ℕ) (past : Past) → IsLow (left g r past)
unfolding resv left left_by slot_now
lefts-small g valid r past = by_kind (resv g r).kind small.slots
  where
    small : ResvIsSmall (resv g r)
    small =
        each-at ResvIsSmall no_resv (record { budget = omega arith; slots = tt }) g.setup.resvs
        (by-rule (resv_range (draft_of g.setup)) draft_resv ResvIsSmall (λ e x k. resv-small g.setup e x k) [] g.setup.resvs (set-rows g.setup valid).resvs_in_range) (r - 1)

    by_kind : (k : ResvKind) → SlotsAreSmall k (resv g r).slots → IsLow (left_by g k r past)
    by_kind Table h = omega (arith, found-small _ (resv g r).slots (slot_at (resv g r).period (resv g r).slots (now past)) refl h (resv g r).period (now past))
    by_kind Polling h = omega (arith, left-low (is_some (refilled g r past) && not (is_lost g r past)) (resv g r).budget (spent g r past) small.budget)
    by_kind Sporadic h = omega (arith, left-low (is_some (refilled g r past) && not (is_lost g r past)) (resv g r).budget (spent g r past) small.budget)
