-- PCP (Sha, Rajkumar and Lehoczky, IEEE Transactions on Computers, 1990): the semaphores of one cluster, with the ceiling test.
-- `above t u` says that the base key of t is higher than that of u; `above_ceiling t s` that it is higher than the ceiling of s.
use Rattle.std.specs.Prelude.{ℕ, Bool, not, ◌&&◌, ◌==◌, List, [], ◌∷◌, ◌++◌, map, Option, None, Some, if◌then◌else◌, filter}
use Rattle.std.specs.List.{list_all}
use Rattle.rt_rules.specs.Numbers.{first}
use Rattle.rt_rules.specs.SemState.{SemAct, Asks, Frees, Neither, SemState}

-- a task and a semaphore that it holds or waits for
pub record TaskSem : Type 0 where
  pub task : ℕ
  pub sem : ℕ

abbrev pub is_same_pair : TaskSem → TaskSem → Bool
is_same_pair p q = p.task == q.task && p.sem == q.sem

-- what is held, the newest grant first, and what is waited for
pub record PcpState : Type 0 where
  pub held : List TaskSem
  pub waiting : List TaskSem

-- the tasks of the pairs of one semaphore, and the pairs of other tasks
abbrev pub of_sem : ℕ → List TaskSem → List ℕ
of_sem s ps = map (λ (p : TaskSem). p.task) (filter (λ p. p.sem == s) ps)

abbrev pub of_others : ℕ → List TaskSem → List TaskSem
of_others t ps = filter (λ p. not (p.task == t)) ps

abbrev pub without_pair : TaskSem → List TaskSem → List TaskSem
without_pair p ps = filter (λ q. not (is_same_pair p q)) ps

-- a task passes where its base key is higher than the ceiling of each semaphore that another task holds
abbrev pub passes : (ℕ → ℕ → Bool) → List TaskSem → ℕ → Bool
passes above_ceiling held t = list_all (λ p. above_ceiling t p.sem) (of_others t held)

-- the waiting requests in falling order of base key
abbrev pub by_key : (ℕ → ℕ → Bool) → TaskSem → List TaskSem → List TaskSem
by_key above p [] = p ∷ []
by_key above p (q ∷ qs) = if above p.task q.task then p ∷ q ∷ qs else (q ∷ by_key above p qs)

abbrev pub in_order : (ℕ → ℕ → Bool) → List TaskSem → List TaskSem
in_order above [] = []
in_order above (p ∷ ps) = by_key above p (in_order above ps)

-- each waiting request is tested once, in that order, and is granted where its task passes at its turn
abbrev pub granted : TaskSem → PcpState → PcpState
granted p l = record { held = p ∷ l.held; waiting = without_pair p l.waiting }

abbrev pub tested : (ℕ → ℕ → Bool) → List TaskSem → PcpState → PcpState
tested above_ceiling [] l = l
tested above_ceiling (p ∷ ps) l = tested above_ceiling ps (if passes above_ceiling l.held p.task then granted p l else l)

abbrev pub pcp_after : (ℕ → ℕ → Bool) → (ℕ → ℕ → Bool) → SemAct → PcpState → PcpState
pcp_after above above_ceiling (Asks t s) l =
    if passes above_ceiling l.held t
    then record l { held = record { task = t; sem = s } ∷ l.held }
    else record l { waiting = l.waiting ++ record { task = t; sem = s } ∷ [] }
pcp_after above above_ceiling (Frees t s) l =
    tested above_ceiling (in_order above l.waiting) (record l { held = without_pair (record { task = t; sem = s }) l.held })
pcp_after above above_ceiling Neither l = l

-- one of the semaphores: who holds it and who waits for it
abbrev pub pcp_sem_state : ℕ → PcpState → SemState
pcp_sem_state s l = record { holder = first (of_sem s l.held); waiting = of_sem s l.waiting }

-- the task that holds a semaphore, if one was named
abbrev pub holder_among : List TaskSem → Option ℕ → Option ℕ
holder_among held None = None
holder_among held (Some s) = first (of_sem s held)
