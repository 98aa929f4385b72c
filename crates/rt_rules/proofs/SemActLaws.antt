-- Who asks and who frees in an act at a semaphore.
use Rattle.std.specs.Prelude.{◌≡◌, ℕ}
use Rattle.rt_rules.specs.SemState.{SemAct, Asks, Frees}

-- a task asks for a semaphore
abbrev pub AsksSome : ℕ → SemAct → Type 0
AsksSome t x = (s : ℕ) × (x ≡ Asks t s)

-- a task frees a semaphore
abbrev pub FreesSome : ℕ → SemAct → Type 0
FreesSome t x = (s : ℕ) × (x ≡ Frees t s)

pub asks-some : (t u s : ℕ) → t ≡ u → AsksSome t (Asks u s)
asks-some t u s e = (s, rw e)

pub frees-some : (t u s : ℕ) → t ≡ u → FreesSome t (Frees u s)
frees-some t u s e = (s, rw e)
