-- The spans of values behind which one is added so many times.
use Rattle.std.proofs.Common.{◌≡◌, ◌∙◌, ℕ, zero, suc, ◌+◌, ◌-◌, ◌<◌, ◌≤◌, Bool, true, false, List, [], ◌∷◌, ◌++◌, length, map, get_or, set, refl, sym, ap, arith}
use Rattle.std.specs.Prelude.{replicate}
use Rattle.std.proofs.lemmas.List.{get_or-map, length-map, map-append, map-set}
use Rattle.trace_views.specs.Spans.{Span, joined, spans, spans_from}
use Rattle.span_feed.specs.Extended.{Decides, extended}

module _ {A : Type 0} (same : A → A → Bool) (d : Decides A same) where
  -- one value, so many times
  span-one : (i m : ℕ) (x : A) → spans_from same i (replicate (suc m) x) ≡ record { from = i; to = i + suc m; value = x } ∷ []
  span-one i zero x = let end : suc i ≡ i + 1 = omega arith in λ j. record { from = i; to = end j; value = x } ∷ []
  span-one i (suc m) x =
      let end : suc i + suc m ≡ i + suc (suc m) = omega arith in
      ap (joined same i x) (span-one (suc i) m x) ∙ rw (d.knows x) (λ j. record { from = i; to = end j; value = x } ∷ [])

  -- a value before, and one behind
  both-ends : (i from to : ℕ) (y x : A) (ss : List (Span A)) → joined same i y (extended same from to x ss) ≡ extended same from to x (joined same i y ss)
  both-ends i from to y x [] = by_case (same y x) refl
    where
      by_case : (b : Bool) → same y x ≡ b → joined same i y (extended same from to x []) ≡ extended same from to x (joined same i y [])
      by_case true h = rw h (λ j. record { from = i; to = to; value = sym (d.tells y x h) j } ∷ [])
      by_case false h = rw h refl
  both-ends i from to y x (s ∷ []) = by_case (same y s.value) (same s.value x) refl refl
    where
      by_case : (b c : Bool) → same y s.value ≡ b → same s.value x ≡ c → joined same i y (extended same from to x (s ∷ [])) ≡ extended same from to x (joined same i y (s ∷ []))
      by_case true true h k = rw (k, h, k) refl
      by_case true false h k = rw (k, h, k) refl
      by_case false true h k = rw (k, h, k) refl
      by_case false false h k = rw (k, h, k) refl
  both-ends i from to y x (s ∷ r ∷ ss) = by_case (same y s.value) refl
    where
      by_case : (b : Bool) → same y s.value ≡ b → joined same i y (extended same from to x (s ∷ r ∷ ss)) ≡ extended same from to x (joined same i y (s ∷ r ∷ ss))
      by_case true h = rw h refl
      by_case false h = rw h refl

  extended-from : (i n : ℕ) (xs : List A) (x : A) → 0 < n → spans_from same i (xs ++ replicate n x) ≡ extended same (i + length xs) (i + length xs + n) x (spans_from same i xs)
  extended-from i zero [] x h = absurd (omega arith)
  extended-from i (suc m) [] x h =
      let at : i ≡ i + 0 = omega arith in
      let end : i + suc m ≡ i + 0 + suc m = omega arith in
      span-one i m x ∙ (λ j. record { from = at j; to = end j; value = x } ∷ [])
  extended-from i n (y ∷ ys) x h =
      let at : suc i + length ys ≡ i + suc (length ys) = omega arith in
      ap (joined same i y) (extended-from (suc i) n ys x h) ∙ both-ends i (suc i + length ys) (suc i + length ys + n) y x (spans_from same (suc i) ys)
      ∙ ap (λ k. extended same k (k + n) x (joined same i y (spans_from same (suc i) ys))) at

  -- The last span tells how the spans go on.
  pub spans-more : (n : ℕ) (xs : List A) (x : A) → 0 < n → spans same (xs ++ replicate n x) ≡ extended same (length xs) (length xs + n) x (spans same xs)
  spans-more n xs x h =
      let at : 0 + length xs ≡ length xs = omega arith in
      extended-from 0 n xs x h ∙ ap (λ k. extended same k (k + n) x (spans same xs)) at

-- ---- as the last span is found

module _ {A : Type 0} (same : A → A → Bool) (from to : ℕ) (x : A) where
  pub longer : (i : ℕ) (ss : List (Span A)) (s : Span A) → suc i ≡ length ss → s ≡ get_or ss i s → same s.value x ≡ true → extended same from to x ss ≡ set ss i (record s { to = to })
  longer i [] s last is k = absurd (omega arith)
  longer zero (r ∷ []) s last is k = let here : same r.value x ≡ true = ap (λ (q : Span A). same q.value x) (sym is) ∙ k in rw here (λ j. record (sym is j) { to = to } ∷ [])
  longer zero (r ∷ q ∷ ss) s last is k = absurd (omega arith)
  longer (suc i) (r ∷ []) s last is k = absurd (omega arith)
  longer (suc i) (r ∷ q ∷ ss) s last is k = ap (λ ys. r ∷ ys) (longer i (q ∷ ss) s (omega arith) is k)

  pub one-more : (i : ℕ) (ss : List (Span A)) (s : Span A) → suc i ≡ length ss → s ≡ get_or ss i s → same s.value x ≡ false → extended same from to x ss ≡ ss ++ record { from = from; to = to; value = x } ∷ []
  one-more i [] s last is k = absurd (omega arith)
  one-more zero (r ∷ []) s last is k = let here : same r.value x ≡ false = ap (λ (q : Span A). same q.value x) (sym is) ∙ k in rw here refl
  one-more zero (r ∷ q ∷ ss) s last is k = absurd (omega arith)
  one-more (suc i) (r ∷ []) s last is k = absurd (omega arith)
  one-more (suc i) (r ∷ q ∷ ss) s last is k = ap (λ ys. r ∷ ys) (one-more i (q ∷ ss) s (omega arith) is k)

  pub first-one : (ss : List (Span A)) → length ss ≡ 0 → extended same from to x ss ≡ ss ++ record { from = from; to = to; value = x } ∷ []
  first-one [] h = refl
  first-one (s ∷ ss) h = absurd (omega arith)

-- of values that are shown
module _ {A B : Type 0} (same : A → A → Bool) (shown : B → Span A) (from to : ℕ) (x : A) (items : List B) (n : ℕ) (long : n ≡ length items) where
  seen-last : (b : B) → 0 < n → b ≡ get_or items (n - 1) b → shown b ≡ get_or (map shown items) (n - 1) (shown b)
  seen-last b some is = let low : n - 1 < length items = omega arith in ap shown is ∙ sym (get_or-map shown items (n - 1) b (shown b) low)

  at-last : 0 < n → suc (n - 1) ≡ length (map shown items)
  at-last some = omega (arith, length-map items shown, long, some)

  pub shown-longer : (b new : B) → 0 < n → b ≡ get_or items (n - 1) b → same (shown b).value x ≡ true → shown new ≡ (let s : Span A = record (shown b) { to = to } in s)
      → map shown (set items (n - 1) new) ≡ extended same from to x (map shown items)
  shown-longer b new some is k made =
      map-set shown items (n - 1) new ∙ ap (set (map shown items) (n - 1)) made ∙ sym (longer same from to x (n - 1) (map shown items) (shown b) (at-last some) (seen-last b some is) k)

  module _ (new : B) (made : List B) (is_new : shown new ≡ (let s : Span A = record { from = from; to = to; value = x } in s)) (pushed : made ≡ items ++ new ∷ []) where
    shown-made : map shown made ≡ map shown items ++ record { from = from; to = to; value = x } ∷ []
    shown-made = ap (map shown) pushed ∙ map-append shown items (new ∷ []) ∙ ap (λ s. map shown items ++ s ∷ []) is_new

    pub shown-one-more : (b : B) → 0 < n → b ≡ get_or items (n - 1) b → same (shown b).value x ≡ false → map shown made ≡ extended same from to x (map shown items)
    shown-one-more b some is k = shown-made ∙ sym (one-more same from to x (n - 1) (map shown items) (shown b) (at-last some) (seen-last b some is) k)

    pub shown-first : n ≤ 0 → map shown made ≡ extended same from to x (map shown items)
    shown-first none = let empty : length (map shown items) ≡ 0 = omega (arith, length-map items shown, long, none) in shown-made ∙ sym (first-one same from to x (map shown items) empty)
