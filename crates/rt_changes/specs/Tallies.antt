-- The list of requests with their counts, and what one entry makes of it.
use Rattle.std.specs.Prelude.{◌≡◌, ℕ, ◌+◌, Bool, ◌&&◌, ◌==◌, List, [], ◌∷◌, ◌++◌, map, Option, None, Some, if◌then◌else◌}
use Rattle.rt_task.specs.declared.Act.{Act}
use Rattle.rt_rules.specs.declared.history.Reply.{Reply}
use Rattle.rt_rules.specs.Numbers.{is}
use Rattle.rt_rules.specs.SemState.{SemAct, Asks, Frees, Neither}
use Rattle.rt_model.specs.Blocking.{Asked, requests, ends, ends_all, bound, is_blocked}
use Rattle.rt_model.specs.Group.{Group}
use Rattle.rt_model.specs.Holders.{awaits, sem_state}
use Rattle.rt_model.specs.Past.{Past, accepted, sem_act_of}

-- a request: its entry's number, its task and semaphore, how many critical sections of the semaphore ended while it was open and its
-- task was priority-blocked, how many ended while it was open in all, and the bound on the former, under FMLP on both
pub record Tally : Type 0 where
  pub no : ℕ
  pub task : ℕ
  pub sem : ℕ
  pub ends : ℕ
  pub ends_all : ℕ
  pub bound : Option ℕ

-- a request with its counts at a past
abbrev pub tally : Group → Past → Asked → Tally
tally g past r =
    let seen = ends g r.no r.task r.sem past in
    let seen_in_all = ends_all g r.no r.task r.sem past in
    record { no = r.no; task = r.task; sem = r.sem; ends = seen; ends_all = seen_in_all; bound = bound g r.task r.sem }

-- the requests of a past, in order of asking
abbrev pub tallies : Group → Past → List Tally
tallies g past = map (tally g past) (requests past)

-- a task that waits, and whether it is priority-blocked
pub record Waiter : Type 0 where
  pub task : ℕ
  pub blocked : Bool

-- the tasks of such a list
abbrev pub waiter_tasks : List Waiter → List ℕ
waiter_tasks ws = map (λ (w : Waiter). w.task) ws

-- whether a task is priority-blocked, if it is in the list
abbrev pub blocked_in : ℕ → List Waiter → Option Bool
blocked_in t [] = None
blocked_in t (w ∷ ws) = if t == w.task then Some w.blocked else blocked_in t ws

-- the list is of the tasks that wait for the semaphore, and right about each
abbrev pub AreWaiters : Group → ℕ → Past → List Waiter → Type 0
AreWaiters g s past ws = (t : ℕ) → blocked_in t ws ≡ (if is s (awaits g t past) then Some (is_blocked g t past) else None)

-- a task at a past
abbrev pub waiter : Group → Past → ℕ → Waiter
waiter g past t = record { task = t; blocked = is_blocked g t past }

-- the waiting list of a semaphore
abbrev pub waiters : Group → ℕ → Past → List Waiter
waiters g s past = map (waiter g past) (sem_state g s past).waiting

-- the number of a task's newest request in a list, or else the one given
abbrev pub newest_from : ℕ → Option ℕ → List Tally → Option ℕ
newest_from t o [] = o
newest_from t o (x ∷ xs) = newest_from t (if t == x.task then Some x.no else o) xs

-- the number of a task's newest request in a list
abbrev pub newest_of : ℕ → List Tally → Option ℕ
newest_of t xs = newest_from t None xs

-- a request whose task waits has seen one more critical section end
abbrev pub seen_by : Option Bool → Tally → Tally
seen_by None x = x
seen_by (Some blocked) x = record x { ends = if blocked then x.ends + 1 else x.ends; ends_all = x.ends_all + 1 }

-- a semaphore is freed: a request has seen one more critical section end if it is for the semaphore and the newest of a task that
-- waits
abbrev pub counted_at : ℕ → List Waiter → List Tally → Tally → Tally
counted_at s ws all x = if x.sem == s && is x.no (newest_of x.task all) then seen_by (blocked_in x.task ws) x else x

-- so for each request of the list
abbrev pub counted : ℕ → List Waiter → List Tally → List Tally
counted s ws xs = map (counted_at s ws xs) xs

-- what an act does at a semaphore, by its reply and the task that its processor runs
abbrev pub act_by : Act → Reply → Option ℕ → SemAct
act_by act reply runs = if accepted reply then sem_act_of act runs else Neither

-- a new request, by its entry's number
abbrev pub asked_new : (ℕ → ℕ → Option ℕ) → ℕ → ℕ → ℕ → Tally
asked_new bounds n t s = record { no = n; task = t; sem = s; ends = 0; ends_all = 0; bound = bounds t s }

-- one entry, by its number: it adds a request, or frees a semaphore for which these tasks wait, or does neither
abbrev pub fed : (ℕ → ℕ → Option ℕ) → ℕ → SemAct → List Waiter → List Tally → List Tally
fed bounds n (Asks t s) ws xs = xs ++ asked_new bounds n t s ∷ []
fed bounds n (Frees t s) ws xs = counted s ws xs
fed bounds n Neither ws xs = xs
