-- The stack resource policy (Baker, Real-Time Systems, 1991): a smaller relative deadline is a higher preemption level. Each lock is
-- granted; a task is kept from starting by a test.
use Rattle.std.specs.Prelude.{ℕ, Bool, ◌==◌, nat_lt, List, [], ◌∷◌, Option, min, option_map, find}
use Rattle.std.specs.List.{list_all}
use Rattle.rt_rules.specs.Numbers.{first}
use Rattle.rt_rules.specs.Pcp.{TaskSem, of_sem, of_others, without_pair}
use Rattle.rt_rules.specs.SemState.{SemAct, Asks, Frees, Neither, SemState}

-- the smallest of a number and others: the ceiling of a semaphore, of the relative deadlines of its users
abbrev pub least : ℕ → List ℕ → ℕ
least d [] = d
least d (x ∷ xs) = least (min d x) xs

-- what is held, the newest lock first
abbrev pub srp_after : SemAct → List TaskSem → List TaskSem
srp_after (Asks t s) held = record { task = t; sem = s } ∷ held
srp_after (Frees t s) held = without_pair (record { task = t; sem = s }) held
srp_after Neither held = held

-- a task passes where its relative deadline is below the ceiling of each semaphore that another task holds
abbrev pub srp_passes : (ℕ → ℕ) → List TaskSem → ℕ → ℕ → Bool
srp_passes ceiling held t deadline = list_all (λ p. nat_lt deadline (ceiling p.sem)) (of_others t held)

-- one of the semaphores: who holds it; nobody waits
abbrev pub srp_sem_state : ℕ → List TaskSem → SemState
srp_sem_state s held = record { holder = first (of_sem s held); waiting = [] }

-- the semaphore that a task locked last among those that it holds
abbrev pub newest_held : List TaskSem → ℕ → Option ℕ
newest_held held t = option_map (λ (p : TaskSem). p.sem) (find (λ p. p.task == t) held)
