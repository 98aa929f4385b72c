-- Spans: the longest runs of equal values in a list (run-length coding).
use Rattle.std.specs.Prelude.{◌≡◌, ℕ, suc, ◌-◌, ◌<◌, Bool, false, List, [], ◌∷◌, flat_map, replicate, if◌then◌else◌, ⊤}

-- the same value in the columns from one on up to another, which is not of the span
pub record Span (A : Type 0) : Type 0 where
  pub from : ℕ
  pub to : ℕ
  pub value : A

-- a value in column i, before the spans of the columns after it
abbrev pub joined : {A : Type 0} → (A → A → Bool) → ℕ → A → List (Span A) → List (Span A)
joined same i x [] = record { from = i; to = suc i; value = x } ∷ []
joined same i x (s ∷ ss) = if same x s.value then (record s { from = i } ∷ ss) else (record { from = i; to = suc i; value = x } ∷ s ∷ ss)

-- the spans of values, the first of which is in column i
abbrev pub spans_from : {A : Type 0} → (A → A → Bool) → ℕ → List A → List (Span A)
spans_from same i [] = []
spans_from same i (x ∷ xs) = joined same i x (spans_from same (suc i) xs)

abbrev pub spans : {A : Type 0} → (A → A → Bool) → List A → List (Span A)
spans same xs = spans_from same 0 xs

-- the values that spans stand for
abbrev pub expanded : {A : Type 0} → List (Span A) → List A
expanded ss = flat_map (λ s. replicate (s.to - s.from) s.value) ss

-- spans that stand side by side from a column on up to another: none is empty, each begins where the one before it ends, and
-- neighbours have different values
abbrev pub Differs : {A : Type 0} → (A → A → Bool) → A → List (Span A) → Type 0
Differs same x [] = ⊤
Differs same x (s ∷ ss) = same x s.value ≡ false

abbrev pub AreSideBySide : {A : Type 0} → (A → A → Bool) → ℕ → ℕ → List (Span A) → Type 0
AreSideBySide same i n [] = i ≡ n
AreSideBySide same i n (s ∷ ss) = (s.from ≡ i) × (s.from < s.to) × Differs same s.value ss × AreSideBySide same s.to n ss
