-- Which requests are open: of each task at most its newest, as long as it waits; and how many critical sections these see end.
use Rattle.std.specs.Prelude.{◌≡◌, ◌≢◌, ℕ, ◌-◌, ◌*◌, ◌≤◌, ◌<◌, length, true, false, ◌∷◌, All, Contains, Some}
use Rattle.rt_task.specs.declared.Protocol.TheVariants.{Fmlp, Omlp}
use Rattle.rt_rules.specs.Distinct.{IsDistinct}
use Rattle.rt_rules.specs.Numbers.{has}
use Rattle.rt_rules.specs.SemState.{Frees}
use Rattle.rt_model.specs.Blocking.{ends, ends_all, is_open, requests}
use Rattle.rt_model.specs.Group.{Group, cpus, home, protocol, sems, users}
use Rattle.rt_model.specs.Holders.{awaits, holder, sem_state}
use Rattle.rt_model.specs.Past.{Event, Past, entries_in, sem_act}
use Rattle.rt_laws.specs.EveryPast.{EveryPast, EveryMove}
use Rattle.rt_changes.specs.Tallies.{Tally, newest_of, tallies, waiter_tasks, waiters}

-- a task has an open request for the semaphore, which is its newest
pub record HasOpen (g : Group) (t s : ℕ) (past : Past) : Type 0 where
  pub no : ℕ
  pub listed : Contains (requests past) (record { no = no; task = t; sem = s })
  pub newest : newest_of t (tallies g past) ≡ Some no
  pub open_now : is_open g no t s past ≡ true

-- Each waiting task has an open request for the semaphore that it waits for.
abbrev pub WaitingHasOpen : Type 0
WaitingHasOpen = EveryPast (λ g past. (t s : ℕ) → awaits g t past ≡ Some s → HasOpen g t s past)

-- an open request is the newest of its task, which waits
pub record IsOpenOf (g : Group) (r t s : ℕ) (past : Past) : Type 0 where
  pub newest : newest_of t (tallies g past) ≡ Some r
  pub waits : awaits g t past ≡ Some s
  pub listed : has t (sem_state g s past).waiting ≡ true

-- No other request is open: the open requests of a semaphore are the newest ones of the tasks on its waiting list.
abbrev pub OpenIsNewest : Type 0
OpenIsNewest = EveryPast (λ g past. (r t s : ℕ) → is_open g r t s past ≡ true → IsOpenOf g r t s past)

-- A request that was made and is not open is never open again.
abbrev pub ClosedStaysClosed : Type 0
ClosedStaysClosed =
    EveryMove
    (λ g e past. (r t s : ℕ) → r < entries_in past → is_open g r t s past ≡ false → is_open g r t s (e ∷ past) ≡ false)

-- A request that is open no longer has been granted: its task holds the semaphore.
abbrev pub ClosesByGrant : Type 0
ClosesByGrant =
    EveryMove
    (λ g e past. (r t s : ℕ) → is_open g r t s past ≡ true → is_open g r t s (e ∷ past) ≡ false → holder g s (e ∷ past) ≡ Some t)

-- Who holds a semaphore has no open request for it, so a grant closes the request.
abbrev pub HolderHasNone : Type 0
HolderHasNone = EveryPast (λ g past. (r t s : ℕ) → holder g s past ≡ Some t → is_open g r t s past ≡ false)

-- No task stands twice on a waiting list.
abbrev pub WaitingOnce : Type 0
WaitingOnce = EveryPast (λ g past. (s : ℕ) → has s (sems g) ≡ true → IsDistinct (waiter_tasks (waiters g s past)))

-- an event leaves both counts of a request
pub record LeavesCounts (g : Group) (r t s : ℕ) (e : Event) (past : Past) : Type 0 where
  pub ends_stay : ends g r t s (e ∷ past) ≡ ends g r t s past
  pub all_stay : ends_all g r t s (e ∷ past) ≡ ends_all g r t s past

-- An Unlock of one semaphore leaves the counts of the requests for every other, whatever it grants.
abbrev pub CountsItsOwn : Type 0
CountsItsOwn =
    (g : Group) (e : Event) (past : Past) (r t s u z : ℕ) → sem_act e ≡ Frees u z → z ≢ s → LeavesCounts g r t s e past

-- Who frees a semaphore has no open request for it, so each critical section that is counted is another task's.
abbrev pub CountsOthers : Type 0
CountsOthers = EveryMove (λ g e past. (r t s : ℕ) → sem_act e ≡ Frees t s → is_open g r t s past ≡ false)

-- the counts of a request are within its bound, if it has one, and within the bounds of its protocol; and the critical sections that
-- ended while its task was priority-blocked are among all that ended
pub record IsWithin (g : Group) (x : Tally) : Type 0 where
  pub ends_within : (b : ℕ) → x.bound ≡ Some b → x.ends ≤ b
  pub all_within : (b : ℕ) → protocol g x.sem ≡ Fmlp → x.bound ≡ Some b → x.ends_all ≤ b
  pub under_omlp : protocol g x.sem ≡ Omlp → x.ends ≤ 2 * cpus g (home g x.task) - 1
  pub under_fmlp : protocol g x.sem ≡ Fmlp → x.ends_all ≤ length (users g x.sem) - 1
  pub blocked_among : x.ends ≤ x.ends_all

-- The bounds hold of each request in the list. While its task was priority-blocked, no more critical sections ended than its bound
-- says, which is 2m - 1 under OMLP; and under FMLP no more than n - 1 ended in all.
abbrev pub SeenWithinBound : Type 0
SeenWithinBound = EveryPast (λ g past. All (IsWithin g) (tallies g past))
