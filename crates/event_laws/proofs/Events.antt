-- Lists of events whose texts are those of lists of values, and what is closed under making such lists.
use Rattle.std.proofs.Common.{◌≡◌, ℕ, zero, suc, ◌+◌, ◌^◌, ◌<◌, ◌≤◌, max, Bool, true, false, List, [], ◌∷◌, ◌++◌, length, map, refl, sym, ap, ap₂, ◌∙◌, arith, cond, subst}
use Rattle.std.specs.Prelude.{Option, None, Some, codes, filter, find, flat_map, reverse, take, if◌then◌else◌, ⊤}
use mathlib.Core.List.{reverse_aux}
use Rattle.trace_views.specs.Spans.{Span, joined, spans_from}
use Rattle.serde_json.specs.Data.{Data, string, items_depth, members_depth}
use Rattle.event_texts.specs.Records.{Piece}
use Rattle.event_laws.specs.AsRead.{ItemsAreWhole, MembersAreWhole}
use Rattle.event_laws.specs.EventValues.{Field, items_of, members_of}
use Rattle.event_laws.proofs.Pieces.{text_of}

-- ---- each of a list

abbrev pub Each : {A : Type 0} → (A → Type 0) → List A → Type 0
Each P [] = ⊤
Each P (x ∷ xs) = P x × Each P xs

pub each-append : {A : Type 0} (P : A → Type 0) (xs ys : List A) → Each P xs → Each P ys → Each P (xs ++ ys)
each-append P [] ys h k = k
each-append P (x ∷ xs) ys h k = (h.0, each-append P xs ys h.1 k)

pub each-filter : {A : Type 0} (P : A → Type 0) (test : A → Bool) (xs : List A) → Each P xs → Each P (filter test xs)
each-filter P test [] h = tt
each-filter P test (x ∷ xs) h = by_case (test x) (each-filter P test xs h.1)
  where
    by_case : (b : Bool) → Each P (filter test xs) → Each P (cond b (x ∷ filter test xs) (filter test xs))
    by_case true rest = (h.0, rest)
    by_case false rest = rest

pub each-take : {A : Type 0} (P : A → Type 0) (n : ℕ) (xs : List A) → Each P xs → Each P (take n xs)
each-take P zero xs h = tt
each-take P (suc n) [] h = tt
each-take P (suc n) (x ∷ xs) h = (h.0, each-take P n xs h.1)

each-turned : {A : Type 0} (P : A → Type 0) (xs ys : List A) → Each P xs → Each P ys → Each P (reverse_aux xs ys)
each-turned P [] ys h k = k
each-turned P (x ∷ xs) ys h k = each-turned P xs (x ∷ ys) h.1 (h.0, k)

pub each-reverse : {A : Type 0} (P : A → Type 0) (xs : List A) → Each P xs → Each P (reverse xs)
each-reverse P xs h = each-turned P xs [] h tt

pub each-map : {A B : Type 0} (P : A → Type 0) (Q : B → Type 0) (f : A → B) → ((x : A) → P x → Q (f x)) → (xs : List A) → Each P xs → Each Q (map f xs)
each-map P Q f step [] h = tt
each-map P Q f step (x ∷ xs) h = (step x h.0, each-map P Q f step xs h.1)

pub each-same : {A : Type 0} (P Q : A → Type 0) → ((x : A) → P x → Q x) → (xs : List A) → Each P xs → Each Q xs
each-same P Q step [] h = tt
each-same P Q step (x ∷ xs) h = (step x h.0, each-same P Q step xs h.1)

pub each-found : {A : Type 0} (P : A → Type 0) (test : A → Bool) (xs : List A) (x : A) → Each P xs → find test xs ≡ Some x → P x
each-found P test [] x h is = cc
each-found P test (y ∷ ys) x h is = by_case (test y) is (each-found P test ys x h.1)
  where
    by_case : (b : Bool) → cond b (Some y) (find test ys) ≡ Some x → (find test ys ≡ Some x → P x) → P x
    by_case true found later = let same : y ≡ x = cc in subst P same h.0
    by_case false found later = later found

-- ---- spans

pub record IsSpanOf {A : Type 0} (P : A → Type 0) (n : ℕ) (s : Span A) : Type 0 where
  pub value_is : P s.value
  pub order : s.from < s.to
  pub within : s.to ≤ n

joined-each : {A : Type 0} (P : A → Type 0) (same : A → A → Bool) (i n : ℕ) (x : A) (ss : List (Span A)) → P x → suc i ≤ n → Each (λ s. IsSpanOf P n s × (i < s.from)) ss
    → Each (λ s. IsSpanOf P n s × (i ≤ s.from)) (joined same i x ss)
joined-each P same i n x [] px low h = ((record { value_is = px; order = omega arith; within = low }, omega arith), tt)
joined-each P same i n x (s ∷ ss) px low h = by_case (same x s.value)
  where
    later : Each (λ s. IsSpanOf P n s × (i ≤ s.from)) ss
    later = each-same (λ s. IsSpanOf P n s × (i < s.from)) (λ s. IsSpanOf P n s × (i ≤ s.from)) (λ s k. (k.0, omega (arith, k.1))) ss h.1

    by_case : (b : Bool) → Each (λ s. IsSpanOf P n s × (i ≤ s.from)) (if b then (record s { from = i } ∷ ss) else (record { from = i; to = suc i; value = x } ∷ s ∷ ss))
    by_case true = ((record { value_is = h.0.0.value_is; order = omega (arith, h.0.0.order, h.0.1); within = h.0.0.within }, omega arith), later)
    by_case false = ((record { value_is = px; order = omega arith; within = low }, omega arith), ((h.0.0, omega (arith, h.0.1)), later))

spans-each : {A : Type 0} (P : A → Type 0) (same : A → A → Bool) (i n : ℕ) (xs : List A) → i + length xs ≤ n → Each P xs → Each (λ s. IsSpanOf P n s × (i ≤ s.from)) (spans_from same i xs)
spans-each P same i n [] few h = tt
spans-each P same i n (x ∷ xs) few h =
    joined-each P same i n x (spans_from same (suc i) xs) h.0 (omega (arith, few))
    (each-same (λ s. IsSpanOf P n s × (suc i ≤ s.from)) (λ s. IsSpanOf P n s × (i < s.from)) (λ s k. (k.0, omega (arith, k.1))) (spans_from same (suc i) xs)
    (spans-each P same (suc i) n xs (omega (arith, few)) h.1))

pub spans-of : {A : Type 0} (P : A → Type 0) (same : A → A → Bool) (n : ℕ) (xs : List A) → length xs ≤ n → Each P xs → Each (IsSpanOf P n) (spans_from same 0 xs)
spans-of P same n xs few h = each-same (λ s. IsSpanOf P n s × (0 ≤ s.from)) (IsSpanOf P n) (λ s k. k.0) (spans_from same 0 xs) (spans-each P same 0 n xs (omega (arith, few)) h)

-- ---- texts and values

-- the numbers of an event are below 2^64, and it nests no deeper
pub record IsEventTo (depth : ℕ) (v : List Field) : Type 0 where
  pub whole : MembersAreWhole (members_of v)
  pub shallow : members_depth (members_of v) ≤ depth

abbrev pub IsEvent : List Field → Type 0
IsEvent v = IsEventTo 9 v

pub record AreEvents (ps : List Piece) (vs : List (List Field)) : Type 0 where
  pub texts : ps ≡ map text_of vs
  pub events : Each IsEvent vs

pub no-events : AreEvents [] []
no-events = record { texts = refl; events = tt }

pub one-event : (p : Piece) (v : List Field) → p ≡ text_of v → IsEvent v → AreEvents (p ∷ []) (v ∷ [])
one-event p v is event = record { texts = ap (λ x. x ∷ []) is; events = (event, tt) }

map-append : (vs ws : List (List Field)) → map text_of (vs ++ ws) ≡ map text_of vs ++ map text_of ws
map-append [] ws = refl
map-append (v ∷ vs) ws = ap (λ l. text_of v ∷ l) (map-append vs ws)

pub append-events : (ps qs : List Piece) (vs ws : List (List Field)) → AreEvents ps vs → AreEvents qs ws → AreEvents (ps ++ qs) (vs ++ ws)
append-events ps qs vs ws a b = record { texts = ap₂ (λ x y. x ++ y) a.texts b.texts ∙ sym (map-append vs ws); events = each-append IsEvent vs ws a.events b.events }

pub flat-events : {A : Type 0} (P : A → Type 0) (f : A → List Piece) (h : A → List (List Field)) → ((x : A) → P x → AreEvents (f x) (h x)) → (xs : List A) → Each P xs → AreEvents (flat_map f xs) (flat_map h xs)
flat-events P f h step [] each = no-events
flat-events P f h step (x ∷ xs) each = append-events (f x) (flat_map f xs) (h x) (flat_map h xs) (step x each.0) (flat-events P f h step xs each.1)

pub map-events : {A : Type 0} (P : A → Type 0) (f : A → Piece) (h : A → List Field) → ((x : A) → P x → (f x ≡ text_of (h x)) × IsEvent (h x)) → (xs : List A) → Each P xs → AreEvents (map f xs) (map h xs)
map-events P f h step [] each = no-events
map-events P f h step (x ∷ xs) each =
    let rest = map-events P f h step xs each.1 in
    let one = step x each.0 in
    record { texts = ap₂ (λ a l. a ∷ l) one.0 rest.texts; events = (one.1, rest.events) }

-- ---- arrays of names

pub names-shallow : (ss : List Piece) → items_depth (items_of (map string ss)) ≤ 0
names-shallow [] = omega arith
names-shallow (s ∷ ss) = omega (arith, names-shallow ss)

pub names-whole : (ss : List Piece) → ItemsAreWhole (items_of (map string ss))
names-whole [] = tt
names-whole (s ∷ ss) = (tt, names-whole ss)
