-- The slots of the table reservations of a cluster of a valid set.
use Rattle.std.proofs.Common.{◌≡◌, ℕ, zero, suc, ◌+◌, ◌-◌, ◌%◌, ◌<◌, ◌≤◌, Bool, true, false, not, ◌&&◌, ◌||◌, cond, List, [], ◌∷◌, ◌++◌, length, map, take, get_or, length-append, length-take, append_assoc, eqb-true, leb-true, ltb-true, leb-false, refl, sym, ap, subst, ◌∙◌, arith}
use Rattle.std.specs.Prelude.{Option, None, Some, nat_le, nat_lt, ◌==◌, if◌then◌else◌, ⊤}
use Rattle.std.specs.List.{All, count_by, find, list_all, list_any}
use Rattle.std.proofs.lemmas.Bool.Decides.{nat_tests}
use Rattle.std.proofs.lemmas.List.{append-nil, length-map, take_more}
use Rattle.rt_base.specs.declared.TheConstants.{MOST_SLOTS, TICK_END}
use Rattle.rt_task.specs.Draft.{draft_of, draft_resv}
use Rattle.rt_task.specs.RangeRules.{resv_range}
use Rattle.rt_task.specs.RuleWords.{is_prio, is_span, within}
use Rattle.rt_task.specs.SlotRules.{fit_by, fit_together, overlap, slots_follow, slots_in_range, slots_length, stand_apart}
use Rattle.rt_task.specs.Validity.{IsValid}
use Rattle.rt_task.specs.declared.Parts.{Parts}
use Rattle.rt_task.specs.declared.Resv.{Resv}
use Rattle.rt_task.specs.declared.ResvKind.{ResvKind}
use Rattle.rt_task.specs.declared.ResvKind.TheVariants.{Polling, Sporadic, Table}
use Rattle.rt_task.specs.declared.Slot.{Slot}
use Rattle.rt_rules.specs.Slots.{holds}
use Rattle.rt_rules.proofs.BoolLaws.{both}
use Rattle.resv_table.specs.Tables.{AreSlots, EachHasItsSlots, cycle_of, end_of, has_tick, is_table, is_table_of, own, slots_from, slots_in, start_of, with_resv}
use Rattle.resv_table.specs.declared.ResvSlot.{ResvSlot}
use Rattle.resv_table.proofs.SlotLaws.{count-cons, counted, find-nobody, one, zero-of}
use Rattle.resv_table.proofs.ValidRows.{fit, ranged}

-- ---- slots that follow each other

-- at a tick none is before, and one at most holds it
follow-counts : (start cycle : ℕ) (ss : List Slot) (t : ℕ) → slots_follow start cycle ss ≡ true → (count_by (holds t) ss ≤ 1) × (t < start → count_by (holds t) ss ≡ 0)
follow-counts start cycle [] t h = (omega arith, λ low. refl)
follow-counts start cycle (s ∷ ss) t h =
    let parts = both (nat_le start s.from) (nat_lt s.from s.to && (nat_le s.to cycle && slots_follow s.to cycle ss)) h in
    let more = both (nat_lt s.from s.to) (nat_le s.to cycle && slots_follow s.to cycle ss) parts.1 in
    let last = both (nat_le s.to cycle) (slots_follow s.to cycle ss) more.1 in
    let low = leb-true start s.from parts.0 in
    let wide = ltb-true s.from s.to more.0 in
    let rest = follow-counts s.to cycle ss t last.1 in
    let all = count-cons (holds t) s ss in
    by_case (holds t s) refl low wide rest.0 rest.1 all
  where
    by_case : (b : Bool) → holds t s ≡ b → start ≤ s.from → s.from < s.to → count_by (holds t) ss ≤ 1 → (t < s.to → count_by (holds t) ss ≡ 0) → count_by (holds t) (s ∷ ss) ≡ cond b 1 0 + count_by (holds t) ss → (count_by (holds t) (s ∷ ss) ≤ 1) × (t < start → count_by (holds t) (s ∷ ss) ≡ 0)
    by_case true e low wide few none all =
        let two = both (nat_le s.from t) (nat_lt t s.to) e in
        let a = leb-true s.from t two.0 in
        let b = ltb-true t s.to two.1 in
        let rest = none b in
        (omega (arith, rest, all), λ before. absurd (omega (arith, before, low, a)))
    by_case false e low wide few none all = (omega (arith, few, all), λ before. (let rest = none (omega (arith, before, low, wide)) in omega (arith, rest, all)))

follow-each : (start cycle : ℕ) (ss : List Slot) → slots_follow start cycle ss ≡ true → (i : ℕ) (d : Slot) → i < length ss → ((get_or ss i d).from < (get_or ss i d).to) × ((get_or ss i d).to ≤ cycle)
follow-each start cycle [] h i d low = absurd (omega arith)
follow-each start cycle (s ∷ ss) h zero d low =
    let parts = both (nat_le start s.from) (nat_lt s.from s.to && (nat_le s.to cycle && slots_follow s.to cycle ss)) h in
    let more = both (nat_lt s.from s.to) (nat_le s.to cycle && slots_follow s.to cycle ss) parts.1 in
    let last = both (nat_le s.to cycle) (slots_follow s.to cycle ss) more.1 in
    (ltb-true s.from s.to more.0, leb-true s.to cycle last.0)
follow-each start cycle (s ∷ ss) h (suc i) d low =
    let parts = both (nat_le start s.from) (nat_lt s.from s.to && (nat_le s.to cycle && slots_follow s.to cycle ss)) h in
    let more = both (nat_lt s.from s.to) (nat_le s.to cycle && slots_follow s.to cycle ss) parts.1 in
    let last = both (nat_le s.to cycle) (slots_follow s.to cycle ss) more.1 in
    follow-each s.to cycle ss last.1 i d (omega arith)

-- ---- what is known of each reservation, and of any two

-- a table is in range
record InRange (r : Resv) : Type 0 where
  short : r.period < TICK_END
  some : 1 ≤ length r.slots
  follow : slots_follow 0 r.period r.slots ≡ true

abbrev AllRanged : List Resv → Type 0
AllRanged [] = ⊤
AllRanged (r ∷ rs) = (r.kind ≡ Table → InRange r) × AllRanged rs

abbrev FitsAll : Resv → List Resv → Type 0
FitsAll q [] = ⊤
FitsAll q (r ∷ rs) = (fit_together (draft_resv q) (draft_resv r) ≡ true) × FitsAll q rs

abbrev AllFit : List Resv → Type 0
AllFit [] = ⊤
AllFit (r ∷ rs) = FitsAll r rs × AllFit rs

all-ranged : (rs : List Resv) (e : Resv) → ((i : ℕ) → i < length rs → (get_or rs i e).kind ≡ Table → InRange (get_or rs i e)) → AllRanged rs
all-ranged [] e h = tt
all-ranged (r ∷ rs) e h = (h 0 (omega arith), all-ranged rs e (λ i low. h (suc i) (omega arith)))

fits-all : (q : Resv) (rs : List Resv) (e : Resv) → ((i : ℕ) → i < length rs → fit_together (draft_resv q) (draft_resv (get_or rs i e)) ≡ true) → FitsAll q rs
fits-all q [] e h = tt
fits-all q (r ∷ rs) e h = (h 0 (omega arith), fits-all q rs e (λ i low. h (suc i) (omega arith)))

all-fit : (rs : List Resv) (e : Resv) → ((i j : ℕ) → i < j → j < length rs → fit_together (draft_resv (get_or rs i e)) (draft_resv (get_or rs j e)) ≡ true) → AllFit rs
all-fit [] e h = tt
all-fit (r ∷ rs) e h = (fits-all r rs e (λ i low. h 0 (suc i) (omega arith) (omega arith)), all-fit rs e (λ i j before low. h (suc i) (suc j) (omega arith) (omega arith)))

first-last : (a b c d e : Bool) → a && (b && (c && (d && e))) ≡ true → (a ≡ true) × (e ≡ true)
first-last true true true true e h = (refl, h)
first-last true true true false e h = cc
first-last true true false d e h = cc
first-last true false c d e h = cc
first-last false b c d e h = cc

in-range : (p : Parts) → IsValid p → (e : Resv) (i : ℕ) → i < length p.resvs → (get_or p.resvs i e).kind ≡ Table → InRange (get_or p.resvs i e)
unfolding resv_range
in-range p valid e i low table =
    let r : Resv = get_or p.resvs i e in
    let ends = first-last (is_span r.period) (within 1 r.period r.budget) (is_prio r.prio) (nat_lt r.cluster.0 (length (draft_of p).clusters)) (slots_in_range r.kind r.period r.budget r.slots) (ranged p valid e i low) in
    let span = both (nat_le 1 r.period) (nat_le r.period (TICK_END - 1)) ends.0 in
    let slots : slots_in_range Table r.period r.budget r.slots ≡ true = sym (ap (λ k. slots_in_range k r.period r.budget r.slots) table) ∙ ends.1 in
    let f = both (nat_le 1 (length r.slots) && nat_le (length r.slots) MOST_SLOTS) (slots_follow 0 r.period r.slots && r.budget == slots_length r.slots) slots in
    let many = both (nat_le 1 (length r.slots)) (nat_le (length r.slots) MOST_SLOTS) f.0 in
    let g = both (slots_follow 0 r.period r.slots) (r.budget == slots_length r.slots) f.1 in
    let high = leb-true r.period (TICK_END - 1) span.1 in
    record { short = omega (arith, high); some = leb-true 1 (length r.slots) many.0; follow = g.0 }

-- ---- two tables of a cluster

table-of : (c : ℕ) (r : Resv) → is_table_of c r ≡ true → (r.kind ≡ Table) × (r.cluster.0 ≡ c)
table-of c r h = let two = both (is_table r.kind) (r.cluster.0 == c) h in (kind-is r.kind two.0, eqb-true r.cluster.0 c two.1)
  where
    kind-is : (k : ResvKind) → is_table k ≡ true → k ≡ Table
    kind-is Table e = refl
    kind-is Polling e = cc
    kind-is Sporadic e = cc

two-tables : (c : ℕ) (q r : Resv) → is_table_of c q ≡ true → is_table_of c r ≡ true → fit_together (draft_resv q) (draft_resv r) ≡ true → (q.period ≡ r.period) × (stand_apart q.slots r.slots ≡ true)
two-tables c q r h k f =
    let a = table-of c q h in
    let b = table-of c r k in
    let same : q.cluster.0 ≡ r.cluster.0 = a.1 ∙ sym b.1 in
    let e : q.cluster.0 == r.cluster.0 ≡ true = grind (arith, nat_tests, same) in
    let g : fit_by q.kind r.kind (draft_resv q) (draft_resv r) ≡ true = sym (ap (λ x. not x || fit_by q.kind r.kind (draft_resv q) (draft_resv r)) e) ∙ f in
    let two = both (q.period == r.period) (stand_apart q.slots r.slots) (sym (ap (λ m. fit_by Table m (draft_resv q) (draft_resv r)) b.0) ∙ sym (ap (λ m. fit_by m r.kind (draft_resv q) (draft_resv r)) a.0) ∙ g) in
    (eqb-true q.period r.period two.0, two.1)

-- a slot that has no tick in common with one that holds a tick does not hold it
not-held-too : (x z : Slot) (t : ℕ) → holds t x ≡ true → not (overlap x z) ≡ true → (b : Bool) → holds t z ≡ b → holds t z ≡ false
not-held-too x z t e n false k = k
not-held-too x z t e n true k =
    let a = both (nat_le x.from t) (nat_lt t x.to) e in
    let b = both (nat_le z.from t) (nat_lt t z.to) k in
    let a0 = leb-true x.from t a.0 in
    let a1 = ltb-true t x.to a.1 in
    let b0 = leb-true z.from t b.0 in
    let b1 = ltb-true t z.to b.1 in
    let f : nat_lt x.from z.to ≡ true = grind (arith, nat_tests, a0, b1) in
    let g : nat_lt z.from x.to ≡ true = grind (arith, nat_tests, b0, a1) in
    let over : not (overlap x z) ≡ false = rw (f, g) refl in
    let bad : false ≡ true = sym over ∙ n in
    absurd cc

none-over : (x : Slot) (t : ℕ) (zs : List Slot) → holds t x ≡ true → list_all (λ z. not (overlap x z)) zs ≡ true → count_by (holds t) zs ≡ 0
none-over x t [] e h = refl
none-over x t (z ∷ zs) e h =
    let two = both (not (overlap x z)) (list_all (λ y. not (overlap x y)) zs) h in
    let k : holds t z ≡ false = not-held-too x z t e two.0 (holds t z) refl in
    let none = zero-of (holds t) z k in
    let rest = none-over x t zs e two.1 in
    omega (arith, none, rest, count-cons (holds t) z zs)

-- no tick is in two of them
apart : (xs ys : List Slot) (t : ℕ) → stand_apart xs ys ≡ true → 1 ≤ count_by (holds t) xs → count_by (holds t) ys ≡ 0
apart [] ys t h there = absurd (omega (arith, there))
apart (x ∷ xs) ys t h there =
    let two = both (list_all (λ b. not (overlap x b)) ys) (stand_apart xs ys) h in
    by_case (holds t x) refl two.0 (λ more. apart xs ys t two.1 more)
  where
    by_case : (b : Bool) → holds t x ≡ b → list_all (λ z. not (overlap x z)) ys ≡ true → (1 ≤ count_by (holds t) xs → count_by (holds t) ys ≡ 0) → count_by (holds t) ys ≡ 0
    by_case true e all rest = none-over x t ys e all
    by_case false e all rest = let skip = count-cons (holds t) x xs in let none = zero-of (holds t) x e in rest (omega (arith, skip, none, there))

-- ---- the slots of a cluster

-- one reservation more
pub slots_from-push : (c n : ℕ) (rs : List Resv) (r : Resv) → slots_from c n (rs ++ r ∷ []) ≡ slots_from c n rs ++ slots_in c (n + length rs) r
slots_from-push c n [] r = append-nil (slots_in c n r) ∙ ap (λ m. slots_in c m r) (let same : n ≡ n + 0 = omega arith in same)
slots_from-push c n (q ∷ rs) r =
    ap (λ xs. slots_in c n q ++ xs) (slots_from-push c (suc n) rs r)
    ∙ sym (append_assoc (slots_in c n q) (slots_from c (suc n) rs) (slots_in c (suc n + length rs) r))
    ∙ ap (λ m. (slots_in c n q ++ slots_from c (suc n) rs) ++ slots_in c m r) (let same : suc n + length rs ≡ n + suc (length rs) = omega arith in same)

pub slots_from-more : (c n : ℕ) (rs : List Resv) (i : ℕ) (r : Resv) → i < length rs → r ≡ get_or rs i r → slots_from c n (take (i + 1) rs) ≡ slots_from c n (take i rs) ++ slots_in c (n + i) r
slots_from-more c n rs i r low read =
    let count : length (take i rs) ≡ i = (let e = length-take i rs in omega (arith, e, low)) in
    ap (slots_from c n) (take_more rs i r low) ∙ slots_from-push c n (take i rs) (get_or rs i r)
    ∙ ap (λ m. slots_from c n (take i rs) ++ slots_in c (n + m) (get_or rs i r)) count
    ∙ ap (λ x. slots_from c n (take i rs) ++ slots_in c (n + i) x) (sym read)

count-append : (p : ResvSlot → Bool) (xs ys : List ResvSlot) → count_by p (xs ++ ys) ≡ count_by p xs + count_by p ys
count-append p [] ys = omega arith
count-append p (x ∷ xs) ys = let rest = count-append p xs ys in omega (arith, rest, count-cons p x (xs ++ ys), count-cons p x xs)

count-marked : (n t : ℕ) (ss : List Slot) → count_by (has_tick t) (map (with_resv n) ss) ≡ count_by (holds t) ss
count-marked n t [] = refl
count-marked n t (s ∷ ss) = let rest = count-marked n t ss in omega (arith, rest, count-cons (has_tick t) (with_resv n s) (map (with_resv n) ss), count-cons (holds t) s ss)

-- where a table holds a tick none beside it does
beside : (c n : ℕ) (q : Resv) (rs : List Resv) (t : ℕ) → is_table_of c q ≡ true → FitsAll q rs → 1 ≤ count_by (holds t) q.slots → count_by (has_tick t) (slots_from c n rs) ≡ 0
beside c n q [] t h fits there = refl
beside c n q (r ∷ rs) t h fits there =
    let rest = beside c (suc n) q rs t h fits.1 there in
    let here = by_case (is_table_of c r) refl fits.0 in
    omega (arith, rest, here, count-append (has_tick t) (slots_in c n r) (slots_from c (suc n) rs))
  where
    by_case : (b : Bool) → is_table_of c r ≡ b → fit_together (draft_resv q) (draft_resv r) ≡ true → count_by (has_tick t) (slots_in c n r) ≡ 0
    by_case true e f = ap (λ b. count_by (has_tick t) (if b then map (with_resv n) r.slots else [])) e ∙ count-marked n t r.slots ∙ apart q.slots r.slots t (two-tables c q r h e f).1 there
    by_case false e f = ap (λ b. count_by (has_tick t) (if b then map (with_resv n) r.slots else [])) e

once : (c n : ℕ) (rs : List Resv) (t : ℕ) → AllRanged rs → AllFit rs → count_by (has_tick t) (slots_from c n rs) ≤ 1
once c n [] t ranged fits = omega arith
once c n (r ∷ rs) t ranged fits =
    let rest = once c (suc n) rs t ranged.1 fits.1 in
    let all = count-append (has_tick t) (slots_in c n r) (slots_from c (suc n) rs) in
    by_case (is_table_of c r) refl ranged.0 fits.0 rest all
  where
    by_case : (b : Bool) → is_table_of c r ≡ b → (r.kind ≡ Table → InRange r) → FitsAll r rs → count_by (has_tick t) (slots_from c (suc n) rs) ≤ 1 → count_by (has_tick t) (slots_in c n r ++ slots_from c (suc n) rs) ≡ count_by (has_tick t) (slots_in c n r) + count_by (has_tick t) (slots_from c (suc n) rs) → count_by (has_tick t) (slots_in c n r ++ slots_from c (suc n) rs) ≤ 1
    by_case false e range fit rest all =
        let none : count_by (has_tick t) (slots_in c n r) ≡ 0 = ap (λ b. count_by (has_tick t) (if b then map (with_resv n) r.slots else [])) e in
        omega (arith, none, rest, all)
    by_case true e range fit rest all =
        let here : count_by (has_tick t) (slots_in c n r) ≡ count_by (holds t) r.slots = ap (λ b. count_by (has_tick t) (if b then map (with_resv n) r.slots else [])) e ∙ count-marked n t r.slots in
        let few = (follow-counts 0 r.period r.slots t (range (table-of c r e).0).follow).0 in
        by_count (nat_le 1 (count_by (holds t) r.slots)) refl here few
      where
        by_count : (b : Bool) → nat_le 1 (count_by (holds t) r.slots) ≡ b → count_by (has_tick t) (slots_in c n r) ≡ count_by (holds t) r.slots → count_by (holds t) r.slots ≤ 1 → count_by (has_tick t) (slots_in c n r ++ slots_from c (suc n) rs) ≤ 1
        by_count true k here few = let none = beside c (suc n) r rs t e fit (leb-true 1 _ k) in omega (arith, none, here, few, all)
        by_count false k here few = let low = leb-false 1 _ k in omega (arith, low, here, rest, all)

-- ---- their cycle

abbrev SameCycle : ℕ → ℕ → List Resv → Type 0
SameCycle c cycle [] = ⊤
SameCycle c cycle (r ∷ rs) = (is_table_of c r ≡ true → r.period ≡ cycle) × SameCycle c cycle rs

fits-cycle : (c : ℕ) (q : Resv) (rs : List Resv) → is_table_of c q ≡ true → FitsAll q rs → SameCycle c q.period rs
fits-cycle c q [] h fits = tt
fits-cycle c q (r ∷ rs) h fits = (λ e. sym (two-tables c q r h e fits.0).0, fits-cycle c q rs h fits.1)

same-cycle : (c : ℕ) (rs : List Resv) → AllFit rs → SameCycle c (cycle_of c rs) rs
same-cycle c [] fits = tt
same-cycle c (r ∷ rs) fits = by_case (is_table_of c r) refl fits.0 (same-cycle c rs fits.1)
  where
    by_case : (b : Bool) → is_table_of c r ≡ b → FitsAll r rs → SameCycle c (cycle_of c rs) rs → SameCycle c (if b then r.period else cycle_of c rs) (r ∷ rs)
    by_case true e fit rest = (λ k. refl, fits-cycle c r rs e fit)
    by_case false e fit rest = (λ k. (let bad : false ≡ true = sym e ∙ k in absurd cc), rest)

cycle-at : (c cycle : ℕ) (rs : List Resv) (i : ℕ) (d : Resv) → SameCycle c cycle rs → i < length rs → is_table_of c (get_or rs i d) ≡ true → (get_or rs i d).period ≡ cycle
cycle-at c cycle [] i d same low h = absurd (omega arith)
cycle-at c cycle (r ∷ rs) zero d same low h = same.0 h
cycle-at c cycle (r ∷ rs) (suc i) d same low h = cycle-at c cycle rs i d same.1 (omega arith) h

-- each slot is within the cycle
abbrev AllWide : ℕ → List ResvSlot → Type 0
AllWide cycle [] = ⊤
AllWide cycle (x ∷ xs) = ((start_of x < end_of x) × (end_of x ≤ cycle)) × AllWide cycle xs

wide-at : (cycle : ℕ) (xs : List ResvSlot) → AllWide cycle xs → All (λ x. (start_of x < end_of x) × (end_of x ≤ cycle)) xs
wide-at cycle [] h k d low = absurd (omega arith)
wide-at cycle (x ∷ xs) h zero d low = h.0
wide-at cycle (x ∷ xs) h (suc k) d low = wide-at cycle xs h.1 k d (omega arith)

wide-append : (cycle : ℕ) (xs ys : List ResvSlot) → AllWide cycle xs → AllWide cycle ys → AllWide cycle (xs ++ ys)
wide-append cycle [] ys h k = k
wide-append cycle (x ∷ xs) ys h k = (h.0, wide-append cycle xs ys h.1 k)

wide-marked : (start cycle n : ℕ) (ss : List Slot) → slots_follow start cycle ss ≡ true → AllWide cycle (map (with_resv n) ss)
wide-marked start cycle n [] h = tt
wide-marked start cycle n (s ∷ ss) h =
    let parts = both (nat_le start s.from) (nat_lt s.from s.to && (nat_le s.to cycle && slots_follow s.to cycle ss)) h in
    let more = both (nat_lt s.from s.to) (nat_le s.to cycle && slots_follow s.to cycle ss) parts.1 in
    let last = both (nat_le s.to cycle) (slots_follow s.to cycle ss) more.1 in
    ((ltb-true s.from s.to more.0, leb-true s.to cycle last.0), wide-marked s.to cycle n ss last.1)

wide : (c cycle n : ℕ) (rs : List Resv) → AllRanged rs → SameCycle c cycle rs → AllWide cycle (slots_from c n rs)
wide c cycle n [] ranged same = tt
wide c cycle n (r ∷ rs) ranged same = wide-append cycle (slots_in c n r) (slots_from c (suc n) rs) (by_case (is_table_of c r) refl ranged.0 same.0) (wide c cycle (suc n) rs ranged.1 same.1)
  where
    by_case : (b : Bool) → is_table_of c r ≡ b → (r.kind ≡ Table → InRange r) → (is_table_of c r ≡ true → r.period ≡ cycle) → AllWide cycle (if b then map (with_resv n) r.slots else [])
    by_case true e range is = wide-marked 0 cycle n r.slots (subst (λ m. slots_follow 0 m r.slots ≡ true) (is e) (range (table-of c r e).0).follow)
    by_case false e range is = tt

-- there is a slot, and the cycle is short
some-slot : (c n : ℕ) (rs : List Resv) → AllRanged rs → list_any (is_table_of c) rs ≡ true → (1 ≤ length (slots_from c n rs)) × (cycle_of c rs < TICK_END)
some-slot c n [] ranged h = cc
some-slot c n (r ∷ rs) ranged h = by_case (is_table_of c r) refl ranged.0 h (λ k. some-slot c (suc n) rs ranged.1 k)
  where
    by_case : (b : Bool) → is_table_of c r ≡ b → (r.kind ≡ Table → InRange r) → b || list_any (is_table_of c) rs ≡ true → (list_any (is_table_of c) rs ≡ true → (1 ≤ length (slots_from c (suc n) rs)) × (cycle_of c rs < TICK_END)) → (1 ≤ length ((if b then map (with_resv n) r.slots else []) ++ slots_from c (suc n) rs)) × ((if b then r.period else cycle_of c rs) < TICK_END)
    by_case true e range k rest =
        let in_it = range (table-of c r e).0 in
        let some = in_it.some in
        (omega (arith, some, length-map r.slots (with_resv n), length-append (map (with_resv n) r.slots) (slots_from c (suc n) rs)), in_it.short)
    by_case false e range k rest = rest k

module _ (p : Parts) (valid : IsValid p) (e : Resv) where
  ranges : AllRanged p.resvs
  ranges = all-ranged p.resvs e (λ i low table. in-range p valid e i low table)

  fits-here : AllFit p.resvs
  fits-here = all-fit p.resvs e (λ i j before low. fit p valid e i j before low)

  pub are-slots : (c : ℕ) → list_any (is_table_of c) p.resvs ≡ true → AreSlots (cycle_of c p.resvs) (slots_from c 1 p.resvs)
  are-slots c h =
      let two = some-slot c 1 p.resvs ranges h in
      record {
        short = two.1;
        some = two.0;
        each = wide-at (cycle_of c p.resvs) (slots_from c 1 p.resvs) (wide c (cycle_of c p.resvs) 1 p.resvs ranges (same-cycle c p.resvs fits-here));
        apart = λ t. once c 1 p.resvs t ranges fits-here;
      }

-- ---- the slots of each reservation among them

-- what is found in the slots of reservation n, or else beyond them
abbrev beyond : Option Slot → ℕ → Option ResvSlot → Option ResvSlot
beyond None n later = later
beyond (Some s) n later = Some (with_resv n s)

find-marked : (n t : ℕ) (ss : List Slot) (rest : List ResvSlot) → find (has_tick t) (map (with_resv n) ss ++ rest) ≡ beyond (find (holds t) ss) n (find (has_tick t) rest)
find-marked n t [] rest = refl
find-marked n t (s ∷ ss) rest = by_case (holds t s) (find-marked n t ss rest)
  where
    by_case : (b : Bool) → find (has_tick t) (map (with_resv n) ss ++ rest) ≡ beyond (find (holds t) ss) n (find (has_tick t) rest) → cond b (Some (with_resv n s)) (find (has_tick t) (map (with_resv n) ss ++ rest)) ≡ beyond (cond b (Some s) (find (holds t) ss)) n (find (has_tick t) rest)
    by_case true k = refl
    by_case false k = k

own-other : (t c n r : ℕ) (rs : List Resv) → r < n → own r (find (has_tick t) (slots_from c n rs)) ≡ None
own-other t c n r [] low = refl
own-other t c n r (q ∷ rs) low = by_table (is_table_of c q) (own-other t c (suc n) r rs (omega (arith, low)))
  where
    by_find : (o : Option Slot) → own r (find (has_tick t) (slots_from c (suc n) rs)) ≡ None → own r (beyond o n (find (has_tick t) (slots_from c (suc n) rs))) ≡ None
    by_find None k = k
    by_find (Some s) k = let other : n == r ≡ false = grind (arith, nat_tests, low) in rw other refl

    by_table : (b : Bool) → own r (find (has_tick t) (slots_from c (suc n) rs)) ≡ None → own r (find (has_tick t) ((if b then map (with_resv n) q.slots else []) ++ slots_from c (suc n) rs)) ≡ None
    by_table true k = ap (own r) (find-marked n t q.slots (slots_from c (suc n) rs)) ∙ by_find (find (holds t) q.slots) k
    by_table false k = k

found-counted : (p : Slot → Bool) (ss : List Slot) (s : Slot) → find p ss ≡ Some s → 1 ≤ count_by p ss
found-counted p [] s h = cc
found-counted p (x ∷ xs) s h = by_case (p x) refl h (λ k. found-counted p xs s k)
  where
    by_case : (b : Bool) → p x ≡ b → cond b (Some x) (find p xs) ≡ Some s → (find p xs ≡ Some s → 1 ≤ count_by p xs) → 1 ≤ count_by p (x ∷ xs)
    by_case true e k rest = let first = one p x e in omega (arith, first, count-cons p x xs)
    by_case false e k rest = let more = rest k in omega (arith, more, count-cons p x xs)

none-found : (p : ResvSlot → Bool) (xs : List ResvSlot) → count_by p xs ≡ 0 → find p xs ≡ None
none-found p xs h = find-nobody p xs (λ i d low. fails i d low (p (get_or xs i d)) refl)
  where
    fails : (i : ℕ) (d : ResvSlot) → i < length xs → (b : Bool) → p (get_or xs i d) ≡ b → p (get_or xs i d) ≡ false
    fails i d low true k = let more = counted p xs i d low k in absurd (omega (arith, more, h))
    fails i d low false k = k

own-slot : (t c n : ℕ) (rs : List Resv) (i : ℕ) (d : Resv) → i < length rs → is_table_of c (get_or rs i d) ≡ true → count_by (has_tick t) (slots_from c n rs) ≤ 1 → own (n + i) (find (has_tick t) (slots_from c n rs)) ≡ find (holds t) (get_or rs i d).slots
own-slot t c n [] i d low h few = absurd (omega arith)
own-slot t c n (r ∷ rs) zero d low h few =
    let same : n + 0 ≡ n = omega arith in
    ap (λ m. own m (find (has_tick t) (slots_from c n (r ∷ rs)))) same
    ∙ ap (λ b. own n (find (has_tick t) ((if b then map (with_resv n) r.slots else []) ++ slots_from c (suc n) rs))) h
    ∙ ap (own n) (find-marked n t r.slots (slots_from c (suc n) rs))
    ∙ by_find (find (holds t) r.slots) (own-other t c (suc n) n rs (omega arith))
  where
    by_find : (o : Option Slot) → own n (find (has_tick t) (slots_from c (suc n) rs)) ≡ None → own n (beyond o n (find (has_tick t) (slots_from c (suc n) rs))) ≡ o
    by_find None k = k
    by_find (Some s) k = let mine : n == n ≡ true = grind (arith, nat_tests) in rw mine refl
own-slot t c n (r ∷ rs) (suc i) d low h few =
    let all = count-append (has_tick t) (slots_in c n r) (slots_from c (suc n) rs) in
    let rest = own-slot t c (suc n) rs i d (omega arith) h (omega (arith, few, all)) in
    let same : n + suc i ≡ suc n + i = omega arith in
    ap (λ m. own m (find (has_tick t) (slots_from c n (r ∷ rs)))) same ∙ by_table (is_table_of c r) refl rest all
  where
    by_find : (o : Option Slot) → find (holds t) r.slots ≡ o → own (suc n + i) (find (has_tick t) (slots_from c (suc n) rs)) ≡ find (holds t) (get_or rs i d).slots → count_by (has_tick t) (slots_in c n r ++ slots_from c (suc n) rs) ≡ count_by (holds t) r.slots + count_by (has_tick t) (slots_from c (suc n) rs) → own (suc n + i) (beyond o n (find (has_tick t) (slots_from c (suc n) rs))) ≡ find (holds t) (get_or rs i d).slots
    by_find None e k all = k
    by_find (Some s) e k all =
        let other : n == suc n + i ≡ false = grind (arith, nat_tests) in
        let there = found-counted (holds t) r.slots s e in
        let none : find (has_tick t) (slots_from c (suc n) rs) ≡ None = none-found (has_tick t) (slots_from c (suc n) rs) (omega (arith, few, there, all)) in
        ap (λ b. if b then Some s else None) other ∙ sym (ap (own (suc n + i)) none) ∙ k

    by_table : (b : Bool) → is_table_of c r ≡ b → own (suc n + i) (find (has_tick t) (slots_from c (suc n) rs)) ≡ find (holds t) (get_or rs i d).slots → count_by (has_tick t) (slots_in c n r ++ slots_from c (suc n) rs) ≡ count_by (has_tick t) (slots_in c n r) + count_by (has_tick t) (slots_from c (suc n) rs) → own (suc n + i) (find (has_tick t) (slots_in c n r ++ slots_from c (suc n) rs)) ≡ find (holds t) (get_or rs i d).slots
    by_table false e k all = ap (λ b. own (suc n + i) (find (has_tick t) ((if b then map (with_resv n) r.slots else []) ++ slots_from c (suc n) rs))) e ∙ k
    by_table true e k all =
        let here : count_by (has_tick t) (slots_in c n r) ≡ count_by (holds t) r.slots = ap (λ b. count_by (has_tick t) (if b then map (with_resv n) r.slots else [])) e ∙ count-marked n t r.slots in
        ap (λ b. own (suc n + i) (find (has_tick t) ((if b then map (with_resv n) r.slots else []) ++ slots_from c (suc n) rs))) e
        ∙ ap (own (suc n + i)) (find-marked n t r.slots (slots_from c (suc n) rs))
        ∙ by_find (find (holds t) r.slots) refl k (omega (arith, all, here))

pub each_has_its_slots : EachHasItsSlots
each_has_its_slots p valid i d low table =
    let r : Resv = get_or p.resvs i d in
    let c : ℕ = r.cluster.0 in
    let of : is_table_of c r ≡ true = (let itself : c == c ≡ true = grind (arith, nat_tests) in rw (table, itself) refl) in
    let cycle : r.period ≡ cycle_of c p.resvs = cycle-at c (cycle_of c p.resvs) p.resvs i d (same-cycle c p.resvs (fits-here p valid d)) low of in
    let next : suc i ≡ 1 + i = omega arith in
    record {
      cycle_is = sym cycle;
      slot_is = λ clock.
          ap (λ m. own (suc i) (find (has_tick (clock % m)) (slots_from c 1 p.resvs))) (sym cycle)
          ∙ ap (λ m. own m (find (has_tick (clock % r.period)) (slots_from c 1 p.resvs))) next
          ∙ own-slot (clock % r.period) c 1 p.resvs i d low of (once c 1 p.resvs (clock % r.period) (ranges p valid d) (fits-here p valid d));
    }
