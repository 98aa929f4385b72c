-- MPCP (Rajkumar, ICDCS 1990; suspension-based): the waiting request of the highest base key is next.
-- `above t u` says that the base key of t is higher than that of u.
use Rattle.std.specs.Prelude.{ℕ, Bool, List, [], ◌∷◌, ◌++◌, Option, None, Some}
use Rattle.rt_rules.specs.Numbers.{without, foremost}
use Rattle.rt_rules.specs.SemState.{SemAct, Asks, Frees, Neither, SemState}

-- a request gets a semaphore that nobody holds, else it waits
abbrev pub after_ask : ℕ → Option ℕ → SemState → SemState
after_ask t None l = record l { holder = Some t }
after_ask t (Some u) l = record l { waiting = l.waiting ++ t ∷ [] }

-- the semaphore passes on to the task that was chosen among the waiting ones
abbrev pub passed_on : Option ℕ → List ℕ → SemState
passed_on None waiting = record { holder = None; waiting = waiting }
passed_on (Some t) waiting = record { holder = Some t; waiting = without t waiting }

abbrev pub mpcp_after : (ℕ → ℕ → Bool) → SemAct → SemState → SemState
mpcp_after above (Asks t s) l = after_ask t l.holder l
mpcp_after above (Frees t s) l = passed_on (foremost above l.waiting) l.waiting
mpcp_after above Neither l = l
