-- A list of numbers below a room, kept as a ring: each position names the next and the previous one, and the room itself is the position
-- before the first and after the last.
use Rattle.std.specs.Prelude.{◌≡◌, ℕ, zero, suc, ◌+◌, ◌<◌, true, ◌==◌, List, [], ◌∷◌, length, slice_index, if◌then◌else◌}
use Rattle.rt_rules.specs.Distinct.{IsDistinct}
use Rattle.rt_rules.specs.Numbers.{has}

-- a list and its room
pub record Line : Type 0 where
  pub room : ℕ
  pub tasks : List ℕ

-- the numbers from a position on, up to the room
abbrev pub ring_from : List ℕ → ℕ → ℕ → ℕ → List ℕ
ring_from next room zero position = []
ring_from next room (suc n) position = if position == room then [] else (position ∷ ring_from next room n (slice_index next position))

unfoldable pub ring_tasks : List ℕ → ℕ → List ℕ
ring_tasks next room = ring_from next room room (slice_index next room)

-- the positions from p on are those of the list, forwards and backwards
abbrev pub IsLinked : (ℕ → ℕ) → (ℕ → ℕ) → ℕ → ℕ → List ℕ → Type 0
IsLinked next previous room p [] = (next p ≡ room) × (previous room ≡ p)
IsLinked next previous room p (x ∷ xs) = (next p ≡ x) × (previous x ≡ p) × IsLinked next previous room x xs

-- the ring holds the list
pub record IsRing (next previous : List ℕ) (room : ℕ) (tasks : List ℕ) : Type 0 where
  pub linked : IsLinked (slice_index next) (slice_index previous) room room tasks
  pub once : IsDistinct tasks
  pub below : (t : ℕ) → has t tasks ≡ true → t < room
  pub next_length : length next ≡ room + 1
  pub previous_length : length previous ≡ room + 1
