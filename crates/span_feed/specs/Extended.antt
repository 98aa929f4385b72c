-- Spans to which one value more is added, in columns behind them.
use Rattle.std.specs.Prelude.{◌≡◌, ℕ, Bool, true, List, [], ◌∷◌, if◌then◌else◌}
use Rattle.trace_views.specs.Spans.{Span}

-- by the last span alone: the same value makes that longer, and another one is a span of its own
abbrev pub extended : {A : Type 0} → (A → A → Bool) → ℕ → ℕ → A → List (Span A) → List (Span A)
extended same from to x [] = record { from = from; to = to; value = x } ∷ []
extended same from to x (s ∷ []) =
    if same s.value x then (record s { to = to } ∷ []) else (s ∷ record { from = from; to = to; value = x } ∷ [])
extended same from to x (s ∷ r ∷ ss) = s ∷ extended same from to x (r ∷ ss)

-- a test of two values that decides whether they are equal
pub record Decides (A : Type 0) (same : A → A → Bool) : Type 0 where
  pub tells : (x y : A) → same x y ≡ true → x ≡ y
  pub knows : (x : A) → same x x ≡ true
