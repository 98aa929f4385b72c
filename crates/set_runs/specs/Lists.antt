-- Two lists, element by element.
use Rattle.std.specs.Prelude.{◌≡◌, ℕ, ◌<◌, List, length, slice_index_or}

-- the lists are as long, and what stands at the same position is so related
pub record AreEach {A B : Type 0} (R : A → B → Type 0) (xs : List A) (ys : List B) : Type 0 where
  pub all : length ys ≡ length xs
  pub each : (i : ℕ) (x : A) (y : B) → i < length xs → R (slice_index_or xs i x) (slice_index_or ys i y)
