-- A semaphore as it stands: who holds it and who waits, and what an act does at it.
use Rattle.std.specs.Prelude.{ℕ, List, Option}
use Rattle.rt_rules.specs.Numbers.{first, rest}

-- a task asks for a semaphore, or frees it, or does neither
pub data SemAct : Type 0 where
  Asks : ℕ → ℕ → SemAct
  Frees : ℕ → ℕ → SemAct
  Neither : SemAct

-- who holds a semaphore, and who waits for it
pub record SemState : Type 0 where
  pub holder : Option ℕ
  pub waiting : List ℕ

-- the first of the list holds, the others wait
abbrev pub in_line : List ℕ → SemState
in_line ts = record { holder = first ts; waiting = rest ts }
