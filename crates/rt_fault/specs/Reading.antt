-- What the reading of a whole source took from the bytes still to come, where the source tells them.
use Rattle.std.specs.Prelude.{◌≡◌, ℕ, ◌+◌, ◌≤◌, List, [], length, ⊤, Option, None, Some}
use Rattle.std.specs.Io.KnownBytes.{Consumes}

-- these were all the bytes still to come, and none is left
abbrev pub TakesAll : Option (List ℕ) → Option (List ℕ) → List ℕ → Type 0
TakesAll None new bs = ⊤
TakesAll (Some xs) new bs = (bs ≡ xs) × (new ≡ Some [])

-- at most `limit` bytes came
abbrev pub TakesAtMost : ℕ → Option (List ℕ) → Option (List ℕ) → Type 0
TakesAtMost limit old new = (bs : List ℕ) × (length bs ≤ limit) × Consumes old new bs

-- one byte more than the limit came, and no other
abbrev pub TakesOneMoreThan : ℕ → Option (List ℕ) → Option (List ℕ) → Type 0
TakesOneMoreThan limit old new = (bs : List ℕ) × (length bs ≡ limit + 1) × Consumes old new bs
