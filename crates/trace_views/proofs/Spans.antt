-- Spans stand side by side, and written out are the values.
use Rattle.std.proofs.Common.{◌≡◌, ◌∙◌, ℕ, suc, ◌+◌, ◌-◌, Bool, true, false, List, [], ◌∷◌, ◌++◌, length, refl, sym, ap, arith}
use Rattle.std.specs.Prelude.{if◌then◌else◌, replicate}
use Rattle.trace_views.specs.Spans.{Span, joined, spans_from, expanded, AreSideBySide}
use Rattle.trace_views.specs.SpanLaws.{TellsApart, SpansAreExpanded, SpansAreSideBySide}

joined-side : {A : Type 0} (same : A → A → Bool) (i n : ℕ) (x : A) (ss : List (Span A)) → AreSideBySide same (suc i) n ss → AreSideBySide same i n (joined same i x ss)
joined-side same i n x [] h = (refl, omega arith, tt, h)
joined-side same i n x (s ∷ ss) h = by_case (same x s.value) refl
  where
    by_case : (b : Bool) → same x s.value ≡ b → AreSideBySide same i n (if b then (record s { from = i } ∷ ss) else (record { from = i; to = suc i; value = x } ∷ s ∷ ss))
    by_case true k = (refl, omega (arith, h.0, h.1), h.2, h.3)
    by_case false k = (refl, omega arith, k, h)

pub side_by_side : (A : Type 0) → SpansAreSideBySide A
side_by_side A same i [] = omega arith
side_by_side A same i (x ∷ xs) =
    let end : i + suc (length xs) ≡ suc i + length xs = omega arith in
    joined-side same i (i + suc (length xs)) x (spans_from same (suc i) xs) (rw end (side_by_side A same (suc i) xs))

joined-expanded : {A : Type 0} (same : A → A → Bool) (i n : ℕ) (x : A) (ss : List (Span A)) → TellsApart A same → AreSideBySide same (suc i) n ss → expanded (joined same i x ss) ≡ x ∷ expanded ss
joined-expanded same i n x [] apart h =
    let one : suc i - i ≡ 1 = omega arith in
    ap (λ (k : ℕ). replicate k x ++ []) one
joined-expanded same i n x (s ∷ ss) apart h = by_case (same x s.value) refl
  where
    by_case : (b : Bool) → same x s.value ≡ b → expanded (if b then (record s { from = i } ∷ ss) else (record { from = i; to = suc i; value = x } ∷ s ∷ ss)) ≡ x ∷ (replicate (s.to - s.from) s.value ++ expanded ss)
    by_case true k =
        let len : s.to - i ≡ suc (s.to - s.from) = omega (arith, h.0, h.1) in
        ap (λ (m : ℕ). replicate m s.value ++ expanded ss) len ∙ ap (λ y. y ∷ (replicate (s.to - s.from) s.value ++ expanded ss)) (sym (apart x s.value k))
    by_case false k =
        let one : suc i - i ≡ 1 = omega arith in
        ap (λ (m : ℕ). replicate m x ++ (replicate (s.to - s.from) s.value ++ expanded ss)) one

pub expanded_spans : (A : Type 0) → SpansAreExpanded A
expanded_spans A same i [] apart = refl
expanded_spans A same i (x ∷ xs) apart =
    joined-expanded same i (suc i + length xs) x (spans_from same (suc i) xs) apart (side_by_side A same (suc i) xs) ∙ ap (λ ys. x ∷ ys) (expanded_spans A same (suc i) xs apart)
