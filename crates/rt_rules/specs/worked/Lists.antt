-- Worked examples on lists, computed from the definitions. Tasks are above one another by their numbers here, the lower the higher.
use Rattle.std.specs.Prelude.{◌≡◌, ℕ, ◌+◌, Bool, true, false, nat_lt, [], ◌∷◌, Option, None, Some, if◌then◌else◌, refl}
use Rattle.rt_rules.specs.declared.Key.{Key}
use Rattle.rt_rules.specs.Keys.{Ranked, sorted}
use Rattle.rt_rules.specs.Mpcp.{mpcp_after}
use Rattle.rt_rules.specs.Omlp.{omlp_after}
use Rattle.rt_rules.specs.Pcp.{TaskSem, pcp_after}
use Rattle.rt_rules.specs.Placing.{placed}
use Rattle.rt_rules.specs.SemState.{Asks, Frees}
use Rattle.rt_rules.specs.Srp.{least, srp_after, srp_passes, srp_sem_state, newest_held}
use Rattle.rt_rules.specs.Walks.{followers, inherited}

abbrev pub above : ℕ → ℕ → Bool
above t u = nat_lt t u

abbrev pub key : ℕ → Key
key t = record { band = 2; major = t; minor = t }

-- task 1 waits for 2, and 2 for 3: walks lead from both to 3
abbrev pub chain : ℕ → Option ℕ
chain t = if nat_lt t 3 then Some (t + 1) else None

pub chain_followers : followers chain (1 ∷ 2 ∷ 3 ∷ 4 ∷ []) 3 ≡ 1 ∷ 2 ∷ []
chain_followers = refl

pub chain_inherited : inherited None key (2 ∷ 1 ∷ []) 3 ≡ key 1
chain_inherited = refl

-- a boosted task inherits from nobody
pub boosted_inherited : inherited (Some (key 9)) key (2 ∷ 1 ∷ []) 3 ≡ key 9
boosted_inherited = refl

-- of tasks with one key the lower number goes ahead
abbrev pub ranked : ℕ → ℕ → Ranked
ranked k t = record { key = key k; task = t }

pub ties_sorted : sorted (ranked 5 3 ∷ ranked 5 2 ∷ ranked 4 9 ∷ []) ≡ ranked 4 9 ∷ ranked 5 2 ∷ ranked 5 3 ∷ []
ties_sorted = refl

-- task 2 stays where it runs, 1 keeps its link, and 3 takes the processor that is left
pub links_placed :
    placed (1 ∷ 2 ∷ 3 ∷ []) (None ∷ Some 2 ∷ None ∷ []) (None ∷ None ∷ Some 1 ∷ []) ≡ Some 3 ∷ Some 2 ∷ Some 1 ∷ []
links_placed = refl

-- a task that runs on one processor and is linked to another is linked where it runs
pub runs_placed : placed (1 ∷ []) (Some 1 ∷ None ∷ []) (None ∷ Some 1 ∷ []) ≡ Some 1 ∷ None ∷ []
runs_placed = refl

-- MPCP: the highest of the waiting tasks is next
pub mpcp_freed :
    mpcp_after above (Frees 1 1) (record { holder = Some 1; waiting = 4 ∷ 2 ∷ 3 ∷ [] }) ≡ record { holder = Some 2; waiting = 4 ∷ 3 ∷ [] }
mpcp_freed = refl

-- OMLP with room for two: the third request waits in the priority queue, whose highest task is handed over
pub omlp_asked :
    omlp_after 2 above (Asks 3 1) (record { fifo = 1 ∷ 2 ∷ []; queue = 5 ∷ [] }) ≡ record { fifo = 1 ∷ 2 ∷ []; queue = 5 ∷ 3 ∷ [] }
omlp_asked = refl

pub omlp_freed :
    omlp_after 2 above (Frees 1 1) (record { fifo = 1 ∷ 2 ∷ []; queue = 5 ∷ 3 ∷ [] }) ≡ record { fifo = 2 ∷ 3 ∷ []; queue = 5 ∷ [] }
omlp_freed = refl

-- PCP: two wait for semaphore 2, whose ceiling is the key of task 1; at the Unlock the higher is tested first, and the other does
-- not pass any more
abbrev pub pair : ℕ → ℕ → TaskSem
pair t s = record { task = t; sem = s }

abbrev pub above_ceiling : ℕ → ℕ → Bool
above_ceiling t s = nat_lt t 1

pub pcp_freed :
    pcp_after above above_ceiling (Frees 4 1) (record { held = pair 4 1 ∷ []; waiting = pair 3 2 ∷ pair 1 2 ∷ [] })
    ≡ record { held = pair 1 2 ∷ []; waiting = pair 3 2 ∷ [] }
pcp_freed = refl

-- SRP: what is held stands in the order of locking, the newest first, and it is freed from that end
pub srp_asked : srp_after (Asks 3 2) (pair 3 1 ∷ []) ≡ pair 3 2 ∷ pair 3 1 ∷ []
srp_asked = refl

pub srp_freed : srp_after (Frees 3 2) (pair 3 2 ∷ pair 3 1 ∷ []) ≡ pair 3 1 ∷ []
srp_freed = refl

pub srp_newest : newest_held (pair 2 3 ∷ pair 3 2 ∷ pair 3 1 ∷ []) 3 ≡ Some 2
srp_newest = refl

pub srp_held : srp_sem_state 1 (pair 3 2 ∷ pair 3 1 ∷ []) ≡ record { holder = Some 3; waiting = [] }
srp_held = refl

-- the users of a semaphore have the relative deadlines 100 and 50, so that of other tasks those below 50 pass while it is held
pub srp_ceiling : least 1000 (100 ∷ 50 ∷ []) ≡ 50
srp_ceiling = refl

pub below_passes : srp_passes (λ s. 50) (pair 1 1 ∷ []) 3 20 ≡ true
below_passes = refl

pub equal_passes_not : srp_passes (λ s. 50) (pair 1 1 ∷ []) 2 50 ≡ false
equal_passes_not = refl

-- what a task holds itself does not keep it
pub own_passes : srp_passes (λ s. 50) (pair 1 1 ∷ []) 1 100 ≡ true
own_passes = refl
