-- What the table tells is what the rules say.
use Rattle.std.specs.Prelude.{◌≡◌, ◌≤◌, ℕ, true, List, length, Option, Some, if◌then◌else◌}
use Rattle.rt_rules.specs.Distinct.{IsDistinct}
use Rattle.rt_rules.specs.Numbers.{has}
use Rattle.rt_rules.specs.SemState.{Asks, Frees}
use Rattle.rt_model.specs.Answers.{is_granted as is_granted_by_rules}
use Rattle.rt_model.specs.BaseKeys.{base_key}
use Rattle.rt_model.specs.Ceilings.{is_pcp, pcp}
use Rattle.rt_model.specs.EffectiveKeys.{waits_for}
use Rattle.rt_model.specs.Group.{Group, protocol, sems, task, tasks, users}
use Rattle.rt_model.specs.Holders.{sem_state, last_granted}
use Rattle.rt_model.specs.Past.{Event, Past, sem_act}
use Rattle.rt_model.specs.Semaphores.{cluster_of}
use Rattle.rt_model.specs.StackPolicy.{passes_srp}
use Rattle.rt_laws.specs.EveryPast.{EveryMove, EveryPast}
use Rattle.rt_changes.specs.HoldChanges.{IsServed}
use Rattle.rt_changes.specs.Owners.{owner}
use Rattle.pcp_sem.specs.Pairs.{tasks_of}
use Rattle.sem_table.specs.Asked.{is_granted}
use Rattle.sem_table.specs.Released.{after_release}
use Rattle.sem_table.specs.SemTable.{SemTable}
use Rattle.sem_table.specs.Told.{last_of, owner_of, passes_of, state_of, waiters_of, waits_for_of}
use Rattle.sem_table.specs.KeptSems.{KeepsSems}
use Rattle.sem_table.specs.KeptRows.{KeepsRows}

-- Who holds and who waits, of a semaphore that a task of the group declares.
abbrev pub TellsState : Type 0
TellsState = EveryPast (λ g past. (w : SemTable) (s u : ℕ) → has s (sems g) ≡ true → has u (users g s) ≡ true → KeepsSems g past w →
    state_of w s ≡ sem_state g s past)

-- Its owner.
abbrev pub TellsOwner : Type 0
TellsOwner = EveryPast (λ g past. (w : SemTable) (s u : ℕ) → has s (sems g) ≡ true → has u (users g s) ≡ true → KeepsSems g past w →
    owner_of w s ≡ owner g s past)

-- the tasks that wait for the owner of a semaphore: those that wait for it, under PCP for any semaphore of its cluster
abbrev pub waiters_at : Group → ℕ → Past → List ℕ
waiters_at g s past = if is_pcp (protocol g s) then tasks_of (pcp g (cluster_of g s) past).waiting else (sem_state g s past).waiting

-- Those that wait for its owner.
abbrev pub TellsWaiters : Type 0
TellsWaiters = EveryPast (λ g past. (w : SemTable) (s u : ℕ) → has s (sems g) ≡ true → has u (users g s) ≡ true → KeepsSems g past w →
    waiters_of w s ≡ waiters_at g s past)

-- tasks of the group, each once, so that they are no more than it has
pub record AreFewTasks (g : Group) (ts : List ℕ) : Type 0 where
  pub few : length ts ≤ length (tasks g)
  pub once : IsDistinct ts
  pub of_group : (t : ℕ) → has t ts ≡ true → has t (tasks g) ≡ true

-- Those that wait for its owner are few, and so are those that wait for it.
abbrev pub WaitersAreFew : Type 0
WaitersAreFew = EveryPast (λ g past. (w : SemTable) (s u : ℕ) → has s (sems g) ≡ true → has u (users g s) ≡ true → KeepsSems g past w →
    AreFewTasks g (waiters_of w s) × AreFewTasks g (state_of w s).waiting)

-- For whom a task waits.
abbrev pub TellsWaits : Type 0
TellsWaits = EveryPast (λ g past. (w : SemTable) (t : ℕ) → has t (tasks g) ≡ true → KeepsSems g past w → KeepsRows g past w →
    waits_for_of w t ≡ waits_for g t past)

-- The PCP or SRP semaphore that it was granted last.
abbrev pub TellsLast : Type 0
TellsLast = EveryPast (λ g past. (w : SemTable) (t : ℕ) → has t (tasks g) ≡ true → KeepsSems g past w → KeepsRows g past w →
    last_of w t ≡ last_granted g t past)

-- Whether it passes the test of SRP, with its relative deadline.
abbrev pub TellsPassing : Type 0
TellsPassing = EveryPast (λ g past. (w : SemTable) (t : ℕ) → has t (tasks g) ≡ true → KeepsSems g past w → KeepsRows g past w →
    passes_of w t (task g t).rel_deadline ≡ passes_srp g t past)

-- A request is granted where the rules grant it.
abbrev pub GrantsAsRules : Type 0
GrantsAsRules = EveryMove (λ g e past. (w : SemTable) (t s : ℕ) → sem_act e ≡ Asks t s → KeepsSems g past w →
    is_granted t (base_key g t past) s w ≡ is_granted_by_rules g (protocol g s) s t past)

-- the task, if any, that a release granted what it waited for, and there is no other
pub record IsServedBy (g : Group) (e : Event) (past : Past) (o : Option ℕ) : Type 0 where
  pub gives : (u : ℕ) → o ≡ Some u → (r : ℕ) × IsServed g u r e past
  pub takes : (u r : ℕ) → IsServed g u r e past → o ≡ Some u

-- A release grants a semaphore to the task that the accepted Unlock serves.
abbrev pub TellsServed : Type 0
TellsServed = EveryMove (λ g e past. (w : SemTable) (t s : ℕ) → sem_act e ≡ Frees t s → KeepsSems g past w →
    IsServedBy g e past (after_release t s w).served)
