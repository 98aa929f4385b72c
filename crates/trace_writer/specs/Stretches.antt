-- Where in a list of a group's processors those of each cluster stand.
use Rattle.std.specs.Prelude.{ℕ, ◌<◌, ◌≤◌, ◌⊎◌, All, List, slice_index_or}
use Rattle.rt_model.specs.Group.{Group, cluster_with}
use Rattle.trace_writer.specs.declared.stretches.Stretch.{Stretch}

abbrev pub nowhere : Stretch
nowhere = record { start = 0; end = 0 }

-- of so many positions
abbrev pub IsPart : ℕ → Stretch → Type 0
IsPart n s = (s.start ≤ s.end) × (s.end ≤ n)

abbrev pub IsInside : Stretch → ℕ → Type 0
IsInside s k = (s.start ≤ k) × (k < s.end)

abbrev pub IsOutside : Stretch → ℕ → Type 0
IsOutside s k = (k < s.start) ⊎ (s.end ≤ k)

-- each of the first n processors stands in the stretch of its cluster
pub record AreStretches (g : Group) (qs : List ℕ) (n : ℕ) (stretches : List Stretch) : Type 0 where
  pub parts : All (IsPart n) stretches
  pub inside : (k : ℕ) → k < n → IsInside (slice_index_or stretches (cluster_with g (slice_index_or qs k 0)) nowhere) k
