-- Laws of what is known of the reservations before one.
use Rattle.std.proofs.Common.{◌≡◌, ℕ, ◌-◌, ◌<◌, ◌≤◌, List, [], ◌∷◌, ◌++◌, Bool, true, false, not, ◌&&◌, ◌||◌, ◌⊎◌, inl, inr, cond, ltb, leb, eqb, nat_eq, Option, Some, None, fold, length, get_or, map, refl, ap, ap₂, sym, subst, ◌∙◌, arith}
use Rattle.std.specs.HashMap.{get}
use Rattle.std.specs.List.{list_all}
use Rattle.std.proofs.lemmas.List.Folds.{list_all-append, list_all-map, fold-map}
use Rattle.std.proofs.lemmas.Bool.{cases_order, and_parts, or_right, le-ltb, ltb-true, leb-true, eqb-true, ne_eqb, eq-eqb}
use Rattle.std.proofs.lemmas.Bool.Decides.{nat_tests}
use Rattle.rt_task.specs.declared.ResvKind.{ResvKind}
use Rattle.rt_task.specs.declared.ResvKind.TheVariants.{Table, Polling, Sporadic}
use Rattle.rt_task.specs.declared.Slot.{Slot}
use Rattle.rt_task.specs.declared.bad_set.Part.TheVariants as parts
use Rattle.rt_task.specs.declared.bad_set.SetKind.TheVariants as kinds
use Rattle.rt_task.specs.declared.draft.Draft.{Draft}
use Rattle.rt_task.specs.declared.draft.DraftResv.{DraftResv}
use Rattle.rt_base.specs.declared.TheConstants.{MOST_SLOTS, TICK_END}
use Rattle.rt_task.specs.RangeRules.{whole_range, cluster_range, resv_range, task_range, step_range}
use Rattle.rt_task.specs.Draft.{steps_of}
use Rattle.rt_task.specs.Refusals.{each, first, whole}
use Rattle.rt_task.specs.RuleWords.{within, is_span, is_prio, is_p_res}
use Rattle.rt_task.specs.SharingRules.{resv_sharing}
use Rattle.rt_task.specs.Validity.{range_rows}
use Rattle.rt_task.specs.SlotRules.{slots_follow, slots_length, slots_in_range, overlap, fit_by, fit_together}
use Rattle.set_rules.specs.declared.rules.tables.Tables.{Tables}
use Rattle.set_rules.specs.inside.Tables.{is_in_range, cycle_of, slots_of, same_cycle, allows, on_line, placed, is_free, with_entry, has_room, with_slots, IsApart, are_apart, stands_apart, stands_off, turns_with, Knows}
use Rattle.set_rules.proofs.RefusalLaws.{each-passes, third-none}
use Rattle.set_rules.proofs.LineLaws.{and-assoc, and-comm, are_free-is, with_all-apart, with_all-is}

-- ---- tests of all
all-true : {X : Type 0} (xs : List X) → list_all (λ (x : X). true) xs ≡ true
all-true [] = refl
all-true (x ∷ xs) = all-true xs

and-swap : (a b c d : Bool) → ((a && b) && (c && d)) ≡ ((a && c) && (b && d))
and-swap true b c d = and-assoc b c d ∙ ap (λ x. x && d) (and-comm b c) ∙ sym (and-assoc c b d)
and-swap false b c d = refl

all-both : {X : Type 0} (p q : X → Bool) (xs : List X) → list_all (λ x. p x && q x) xs ≡ (list_all p xs && list_all q xs)
all-both p q [] = refl
all-both p q (x ∷ xs) = ap (λ b. (p x && q x) && b) (all-both p q xs) ∙ and-swap (p x) (q x) (list_all p xs) (list_all q xs)

all-turned : {X Y : Type 0} (p : X → Y → Bool) (xs : List X) (ys : List Y) → list_all (λ y. list_all (λ x. p x y) xs) ys ≡ list_all (λ x. list_all (p x) ys) xs
all-turned p [] ys = all-true ys
all-turned p (x ∷ xs) ys = all-both (p x) (λ y. list_all (λ x. p x y) xs) ys ∙ ap (λ b. list_all (p x) ys && b) (all-turned p xs ys)

or-both : (n x y : Bool) → ((n || x) && (n || y)) ≡ (n || (x && y))
or-both true x y = refl
or-both false x y = refl

-- ---- slots on the line
follow-parts : (start cycle : ℕ) (s : Slot) (ss : List Slot) → slots_follow start cycle (s ∷ ss) ≡ true → (start ≤ s.from) × (s.from < s.to) × (s.to ≤ cycle) × (slots_follow s.to cycle ss ≡ true)
follow-parts start cycle s ss h =
    let one = and_parts (leb start s.from) (ltb s.from s.to && (leb s.to cycle && slots_follow s.to cycle ss)) h in
    let two = and_parts (ltb s.from s.to) (leb s.to cycle && slots_follow s.to cycle ss) one.1 in
    let three = and_parts (leb s.to cycle) (slots_follow s.to cycle ss) two.1 in
    (leb-true start s.from one.0, ltb-true s.from s.to two.0, leb-true s.to cycle three.0, three.1)

pub follow-apart : (c start cycle : ℕ) (ss : List Slot) → slots_follow start cycle ss ≡ true → IsApart (on_line c start) (map (placed c) ss)
follow-apart c start cycle [] h = tt
follow-apart c start cycle (s ∷ ss) h =
    let parts = follow-parts start cycle s ss h in
    (omega arith, omega arith, follow-apart c s.to cycle ss parts.3)

same-place : (c x y : ℕ) → ltb (on_line c x) (on_line c y) ≡ ltb x y
same-place c x y = grind (arith, nat_tests)

before-place : (c d x y : ℕ) → c < d → x < 18446744073709551616 → ltb (on_line d y) (on_line c x) ≡ false
before-place c d x y lt small = le-ltb (on_line d y) (on_line c x) (omega arith)

pub are_apart-placed : (c d : ℕ) (a b : Slot) → a.to < 18446744073709551616 → b.to < 18446744073709551616
    → are_apart (placed c a) (placed d b) ≡ (not (eqb d c) || not (overlap b a))
are_apart-placed c d a b la lb = by (cases_order d c)
  where
    by : (d ≡ c) ⊎ ((d < c) ⊎ (c < d)) → are_apart (placed c a) (placed d b) ≡ (not (eqb d c) || not (overlap b a))
    by (inl e) = subst (λ x. are_apart (placed c a) (placed x b) ≡ (not (eqb x c) || not (overlap b a))) (sym e) (rw (same-place c b.from a.to, same-place c a.from b.to, eq-eqb c c refl) refl)
    by (inr (inl lt)) = rw (before-place d c b.to a.from lt lb, ne_eqb d c (λ e. omega arith)) (ap not (and-comm (ltb (on_line d b.from) (on_line c a.to)) false))
    by (inr (inr lt)) = rw (before-place c d a.to b.from lt la, ne_eqb d c (λ e. omega arith)) refl

pub stands_apart-placed : (c d start cycle : ℕ) (a : Slot) (ss : List Slot) → slots_follow start cycle ss ≡ true → cycle < 18446744073709551616 → a.to < 18446744073709551616
    → stands_apart (map (placed d) ss) (placed c a) ≡ (not (eqb d c) || list_all (λ (b : Slot). not (overlap b a)) ss)
stands_apart-placed c d start cycle a [] h lc la = sym (or_right (not (eqb d c)) true refl)
stands_apart-placed c d start cycle a (s ∷ ss) h lc la =
    let parts = follow-parts start cycle s ss h in
    ap₂ (λ x y. x && y) (are_apart-placed c d a s la (omega arith)) (stands_apart-placed c d s.to cycle a ss parts.3 lc la)
    ∙ or-both (not (eqb d c)) (not (overlap s a)) (list_all (λ (b : Slot). not (overlap b a)) ss)

-- what of the ranges matters here
record Ranged (r : DraftResv) : Type 0 where
  period : r.period < 18446744073709551616
  follow : slots_follow 0 r.period (slots_of r.kind r.slots) ≡ true

follow-of : (k : ResvKind) (period budget : ℕ) (ss : List Slot) → slots_in_range k period budget ss ≡ true → slots_follow 0 period (slots_of k ss) ≡ true
follow-of Table period budget ss h =
    let more = and_parts (within 1 MOST_SLOTS (length ss)) (slots_follow 0 period ss && eqb budget (slots_length ss)) h in
    (and_parts (slots_follow 0 period ss) (eqb budget (slots_length ss)) more.1).0
follow-of Polling period budget ss h = refl
follow-of Sporadic period budget ss h = refl

ranged : (r : DraftResv) → is_in_range r ≡ true → Ranged r
ranged r h =
    let both = and_parts (is_span r.period) (slots_in_range r.kind r.period r.budget r.slots) h in
    let span = and_parts (leb 1 r.period) (leb r.period (TICK_END - 1)) both.0 in
    let top : r.period ≤ TICK_END - 1 = leb-true r.period (TICK_END - 1) span.1 in
    record { period = omega arith; follow = follow-of r.kind r.period r.budget r.slots both.1 }

has_room-is : (es : List (ℕ × ℕ)) (c cycle : ℕ) (ss : List Slot) → IsApart 0 es → slots_follow 0 cycle ss ≡ true → has_room es c ss ≡ list_all (stands_apart es) (map (placed c) ss)
has_room-is es c cycle ss h follow =
    sym (list_all-map (is_free es) (placed c) ss) ∙ are_free-is es (on_line c 0) (map (placed c) ss) h (follow-apart c 0 cycle ss follow)

-- ---- a reservation beside the earlier ones
room-among : (t : Tables) (earlier : List DraftResv) (c start cycle : ℕ) (ss : List Slot) → Knows t earlier → slots_follow start cycle ss ≡ true → cycle < 18446744073709551616
    → list_all (stands_apart t.taken.entries) (map (placed c) ss) ≡ list_all (λ a. list_all (stands_off c a) earlier) ss
room-among t earlier c start cycle [] k h lc = refl
room-among t earlier c start cycle (s ∷ ss) k h lc =
    let parts = follow-parts start cycle s ss h in
    ap₂ (λ x y. x && y) (k.slots c s (omega arith)) (room-among t earlier c s.to cycle ss k parts.3 lc)

by_kinds : (j k : ResvKind) (q r : DraftResv)
    → (same_cycle (cycle_of j q.period) (cycle_of k r.period) && list_all (λ (a : Slot). list_all (λ (b : Slot). not (overlap b a)) (slots_of j q.slots)) (slots_of k r.slots)) ≡ fit_by j k q r
by_kinds Table Table q r = ap (λ b. eqb q.period r.period && b) (all-turned (λ (b a : Slot). not (overlap b a)) q.slots r.slots)
by_kinds Table Polling q r = refl
by_kinds Table Sporadic q r = refl
by_kinds Polling Table q r = refl
by_kinds Sporadic Table q r = refl
by_kinds Polling Polling q r = refl
by_kinds Polling Sporadic q r = refl
by_kinds Sporadic Polling q r = refl
by_kinds Sporadic Sporadic q r = refl

fits-one : (q r : DraftResv)
    → (turns_with r.cluster (cycle_of r.kind r.period) q && list_all (λ a. stands_off r.cluster a q) (slots_of r.kind r.slots)) ≡ fit_together q r
fits-one q r = by (eqb q.cluster r.cluster)
  where
    by : (b : Bool) → ((not b || same_cycle (cycle_of q.kind q.period) (cycle_of r.kind r.period)) && list_all (λ (a : Slot). not b || list_all (λ (x : Slot). not (overlap x a)) (slots_of q.kind q.slots)) (slots_of r.kind r.slots)) ≡ (not b || fit_by q.kind r.kind q r)
    by true = by_kinds q.kind r.kind q r
    by false = all-true (slots_of r.kind r.slots)

fits-among : (earlier : List DraftResv) (r : DraftResv)
    → (list_all (turns_with r.cluster (cycle_of r.kind r.period)) earlier && list_all (λ a. list_all (stands_off r.cluster a) earlier) (slots_of r.kind r.slots)) ≡ list_all (λ q. fit_together q r) earlier
fits-among earlier r =
    ap (λ b. list_all (turns_with r.cluster (cycle_of r.kind r.period)) earlier && b) (all-turned (λ q a. stands_off r.cluster a q) earlier (slots_of r.kind r.slots))
    ∙ sym (all-both (turns_with r.cluster (cycle_of r.kind r.period)) (λ q. list_all (λ a. stands_off r.cluster a q) (slots_of r.kind r.slots)) earlier)
    ∙ each earlier
  where
    each : (qs : List DraftResv) → list_all (λ q. turns_with r.cluster (cycle_of r.kind r.period) q && list_all (λ a. stands_off r.cluster a q) (slots_of r.kind r.slots)) qs ≡ list_all (λ q. fit_together q r) qs
    each [] = refl
    each (q ∷ qs) = ap₂ (λ x y. x && y) (fits-one q r) (each qs)

pub fits-is : (t : Tables) (earlier : List DraftResv) (r : DraftResv) → Knows t earlier → is_in_range r ≡ true
    → (allows (get nat_eq t.cycles r.cluster) (cycle_of r.kind r.period) && has_room t.taken.entries r.cluster (slots_of r.kind r.slots)) ≡ list_all (λ q. fit_together q r) earlier
fits-is t earlier r k h =
    let in_range = ranged r h in
    ap₂ (λ x y. x && y) (k.cycles r.cluster (cycle_of r.kind r.period))
    (has_room-is t.taken.entries r.cluster r.period (slots_of r.kind r.slots) k.in_order in_range.follow ∙ room-among t earlier r.cluster 0 r.period (slots_of r.kind r.slots) k in_range.follow in_range.period)
    ∙ fits-among earlier r

-- ---- one more reservation
same-from : (a b : Option ℕ) → same_cycle a b ≡ true → a ≡ b
same-from None None h = refl
same-from (Some a) (Some b) h = ap Some (eqb-true a b h)
same-from None (Some b) h = cc
same-from (Some a) None h = cc

and-same : (b : Bool) → b ≡ (b && b)
and-same true = refl
and-same false = refl

allows-more : (o : Option (Option ℕ)) (d s : Option ℕ) → allows o d ≡ true → same_cycle d s ≡ (allows o s && same_cycle d s)
allows-more None d s h = refl
allows-more (Some c) d s h = subst (λ x. same_cycle d s ≡ (same_cycle x s && same_cycle d s)) (sym (same-from c d h)) (and-same (same_cycle d s))

cycle-next : (b : Bool) (o : Option (Option ℕ)) (d s : Option ℕ) (all : Bool) → (b ≡ true → allows o d ≡ true) → allows o s ≡ all → allows (cond b (Some d) o) s ≡ (all && ((not b || same_cycle d s) && true))
cycle-next true o d s all ok is = allows-more o d s (ok refl) ∙ ap₂ (λ x y. x && y) is (sym (and-comm (same_cycle d s) true))
cycle-next false o d s all ok is = is ∙ sym (and-comm all true)

pub knows-more : (t u : Tables) (earlier : List DraftResv) (r : DraftResv) → Knows t earlier → is_in_range r ≡ true
    → list_all (λ q. fit_together q r) earlier ≡ true
    → ((c : ℕ) → get nat_eq u.cycles c ≡ cond (eqb r.cluster c) (Some (cycle_of r.kind r.period)) (get nat_eq t.cycles c))
    → u.taken.entries ≡ with_slots t.taken.entries r.cluster (slots_of r.kind r.slots)
    → Knows u (earlier ++ r ∷ [])
knows-more t u earlier r k h fit cycles_are taken_are =
    let ss : List Slot = slots_of r.kind r.slots in
    let cycle : Option ℕ = cycle_of r.kind r.period in
    let es : List (ℕ × ℕ) = t.taken.entries in
    let ps : List (ℕ × ℕ) = map (placed r.cluster) ss in
    let in_range = ranged r h in
    let both = and_parts (allows (get nat_eq t.cycles r.cluster) cycle) (has_room es r.cluster ss) (fits-is t earlier r k h ∙ fit) in
    let apart = follow-apart r.cluster 0 r.period ss in_range.follow in
    let ok : list_all (stands_apart es) ps ≡ true = sym (has_room-is es r.cluster r.period ss k.in_order in_range.follow) ∙ both.1 in
    let new : u.taken.entries ≡ fold with_entry es ps = taken_are ∙ sym (fold-map with_entry (placed r.cluster) es ss) in
    record {
      cycles = λ c s.
          ap (λ o. allows o s) (cycles_are c)
          ∙ cycle-next (eqb r.cluster c) (get nat_eq t.cycles c) cycle s (list_all (turns_with c s) earlier)
          (λ e. subst (λ x. allows (get nat_eq t.cycles x) cycle ≡ true) (eqb-true r.cluster c e) both.0) (k.cycles c s)
          ∙ sym (list_all-append (turns_with c s) earlier (r ∷ []));
      in_order = subst (IsApart 0) (sym new) (with_all-apart es (on_line r.cluster 0) ps k.in_order apart ok);
      slots = λ c a la.
          ap (λ xs. stands_apart xs (placed c a)) new
          ∙ with_all-is es (on_line r.cluster 0) ps (placed c a) k.in_order apart ok
          ∙ ap₂ (λ x y. x && y) (k.slots c a la) (stands_apart-placed c r.cluster 0 r.period a ss in_range.follow in_range.period la ∙ sym (and-comm (stands_off c a r) true))
          ∙ sym (list_all-append (stands_off c a) earlier (r ∷ []));
    }

-- ---- in a set whose numbers are in range
ends-of : (a b c e s : Bool) → (a && (b && (c && (e && s)))) ≡ true → (a && s) ≡ true
ends-of true true true true s h = h
ends-of true true true false s h = cc
ends-of true true false e s h = cc
ends-of true false c e s h = cc
ends-of false b c e s h = h

in_range-of : (d : Draft) (r : DraftResv) → resv_range d [] r ≡ true → is_in_range r ≡ true
unfolding resv_range
in_range-of d r h =
    ends-of (is_span r.period) (within 1 r.period r.budget) (is_prio r.prio) (ltb r.cluster (length d.clusters)) (slots_in_range r.kind r.period r.budget r.slots) h

range-same : (d : Draft) (e : List DraftResv) (r : DraftResv) → resv_range d e r ≡ resv_range d [] r
unfolding resv_range
range-same d e r = refl

pub in_range-at : (d : Draft) (rs : List DraftResv) (i : ℕ) (r : DraftResv) → each kinds.Range parts.Resv (resv_range d) d.resvs ≡ None → rs ≡ d.resvs → i < length rs → r ≡ get_or rs i r
    → is_in_range r ≡ true
in_range-at d rs i r none same lt at =
    let none_of : each kinds.Range parts.Resv (resv_range d) rs ≡ None = subst (λ xs. each kinds.Range parts.Resv (resv_range d) xs ≡ None) (sym same) none in
    in_range-of d r (subst (λ x. resv_range d [] x ≡ true) (sym at) (each-passes kinds.Range parts.Resv (resv_range d) (resv_range d []) (range-same d) rs i r none_of lt))

-- where the ranges are refused nowhere
pub range-none : (d : Draft) → first (range_rows d) ≡ None → each kinds.Range parts.Resv (resv_range d) d.resvs ≡ None
range-none d h =
    third-none (whole kinds.Range (whole_range d)) (each kinds.Range parts.Cluster (cluster_range d) d.clusters) (each kinds.Range parts.Resv (resv_range d) d.resvs)
    (each kinds.Range parts.Task (task_range d) d.tasks ∷ each kinds.Range parts.Step (step_range d) (steps_of d.drive) ∷ []) h

pub sharing-fits : (d : Draft) (earlier : List DraftResv) (r : DraftResv) → resv_sharing d earlier r ≡ true → list_all (λ q. fit_together q r) earlier ≡ true
unfolding resv_sharing
sharing-fits d earlier r h = (and_parts (is_p_res d.plugin) (list_all (λ q. fit_together q r) earlier) h).1
