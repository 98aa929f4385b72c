-- Arrivals that wait for their jobs, as contracts see them.
use Rattle.std.specs.Prelude.{ℕ, List, [], ◌∷◌, Option, None, Some, slice_index_or}

-- at each task's number the clocks of its arrivals that wait, and room for how many more
pub record Waiting : Type 0 where
  pub queues : List (List ℕ)
  pub room : ℕ

abbrev pub queue_at : List (List ℕ) → ℕ → List ℕ
queue_at queues t = slice_index_or queues t []

abbrev pub first_of : List ℕ → Option ℕ
first_of [] = None
first_of (x ∷ xs) = Some x

abbrev pub rest_of : List ℕ → List ℕ
rest_of [] = []
rest_of (x ∷ xs) = xs
