-- The laws of spans.
use Rattle.std.specs.Prelude.{◌≡◌, ℕ, ◌+◌, Bool, true, List, length}
use Rattle.trace_views.specs.Spans.{spans_from, expanded, AreSideBySide}

-- a test of two values that tells them apart
abbrev pub TellsApart : (A : Type 0) → (A → A → Bool) → Type 0
TellsApart A same = (x y : A) → same x y ≡ true → x ≡ y

-- Spans lose nothing: written out they are the values.
abbrev pub SpansAreExpanded : Type 0 → Type 0
SpansAreExpanded A = (same : A → A → Bool) (i : ℕ) (xs : List A) → TellsApart A same → expanded (spans_from same i xs) ≡ xs

-- Spans stand side by side from the first column to the last, so that no two overlap, and neighbours have different values.
abbrev pub SpansAreSideBySide : Type 0 → Type 0
SpansAreSideBySide A = (same : A → A → Bool) (i : ℕ) (xs : List A) → AreSideBySide same i (i + length xs) (spans_from same i xs)
