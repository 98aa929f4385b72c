-- Tasks and semaphores: what each task that runs, holds or waits may rely on.
use Rattle.std.specs.Prelude.{◌≡◌, ℕ, ◌≤◌, List, length, Bool, true, false, not, ◌||◌, ◌∷◌, None, Some, is_some}
use Rattle.rt_task.specs.RuleWords.{is_stacked}
use Rattle.rt_rules.specs.Numbers.{has, is_empty}
use Rattle.rt_rules.specs.Pcp.{TaskSem, of_sem}
use Rattle.rt_rules.specs.SemState.{Asks}
use Rattle.rt_model.specs.BaseKeys.{base_key}
use Rattle.rt_model.specs.Ceilings.{is_pcp, pcp}
use Rattle.rt_model.specs.Group.{Group, sems, protocol}
use Rattle.rt_model.specs.Holders.{sem_state, holder, holds, awaits}
use Rattle.rt_model.specs.Past.{Event, Past, ends_job, sem_act}
use Rattle.rt_model.specs.Releases.{exists}
use Rattle.rt_model.specs.Runs.{runs}
use Rattle.rt_model.specs.Sleep.{sleeps}
use Rattle.rt_model.specs.StackPolicy.{srp}
use Rattle.rt_laws.specs.EveryPast.{EveryPast, EveryMove}

-- the current job of a task is there, and it neither sleeps nor waits
pub record IsReady (g : Group) (t : ℕ) (past : Past) : Type 0 where
  pub exists_now : exists g t past ≡ true
  pub awake : sleeps t past ≡ false
  pub free : awaits g t past ≡ None

-- What runs has a current job that is there, and neither waits nor sleeps.
abbrev pub RunningIsReady : Type 0
RunningIsReady = EveryPast (λ g past. (q t : ℕ) → runs q past ≡ Some t → IsReady g t past)

-- A task waits for at most one semaphore.
abbrev pub WaitsForOne : Type 0
WaitsForOne = EveryPast (λ g past. (t s : ℕ) → has s (sems g) ≡ true → has t (sem_state g s past).waiting ≡ true → awaits g t past ≡ Some s)

-- a task holds a semaphore or waits for one
abbrev pub is_engaged : Group → ℕ → Past → Bool
is_engaged g t past = not (is_empty (holds g t past)) || is_some (awaits g t past)

-- the current job of a task is there and awake
pub record HasJob (g : Group) (t : ℕ) (past : Past) : Type 0 where
  pub exists_now : exists g t past ≡ true
  pub awake : sleeps t past ≡ false

-- A task that holds or waits has a current job, which does not sleep.
abbrev pub EngagedHasJob : Type 0
EngagedHasJob = EveryPast (λ g past. (t : ℕ) → is_engaged g t past ≡ true → HasJob g t past)

-- a move ends no job of the task and leaves its base key
pub record KeepsJob (g : Group) (t : ℕ) (e : Event) (past : Past) : Type 0 where
  pub goes_on : ends_job t e ≡ false
  pub same_key : base_key g t (e ∷ past) ≡ base_key g t past

-- While a task holds or waits, its current job neither ends nor changes its base key.
abbrev pub EngagedKeepsJob : Type 0
EngagedKeepsJob = EveryMove (λ g e past. (t : ℕ) → is_engaged g t (e ∷ past) ≡ true → KeepsJob g t e past)

-- a task asks for a semaphore: it holds PCP and SRP semaphores alone, and none where it asks for another kind
pub record IsUnnested (g : Group) (t s : ℕ) (past : Past) : Type 0 where
  pub holds_none : is_stacked (protocol g s) ≡ false → is_empty (holds g t past) ≡ true
  pub holds_stacked : (r : ℕ) → has r (holds g t past) ≡ true → is_stacked (protocol g r) ≡ true

-- Requests of FMLP, OMLP and MPCP do not nest: their task holds nothing when it asks, and asks for nothing while it holds.
abbrev pub RequestsDoNotNest : Type 0
RequestsDoNotNest = EveryMove (λ g e past. (t s : ℕ) → sem_act e ≡ Asks t s → IsUnnested g t s past)

-- The holder of an FMLP, OMLP or MPCP semaphore holds no other.
abbrev pub HolderHoldsOne : Type 0
HolderHoldsOne =
    EveryPast (λ g past. (t s r : ℕ) → has s (sems g) ≡ true → has r (sems g) ≡ true → is_stacked (protocol g s) ≡ false →
    holder g s past ≡ Some t → holder g r past ≡ Some t → s ≡ r)

-- The holder of a semaphore never waits, but for PCP.
abbrev pub HolderWaitsNot : Type 0
HolderWaitsNot =
    EveryPast (λ g past. (t s : ℕ) → has s (sems g) ≡ true → is_pcp (protocol g s) ≡ false →
    holder g s past ≡ Some t → awaits g t past ≡ None)

-- a semaphore stands once among what is held in all clusters
pub record StandsOnce (s : ℕ) (held : ℕ → List TaskSem) : Type 0 where
  pub once : (c : ℕ) → length (of_sem s (held c)) ≤ 1
  pub one_cluster : (b c t u : ℕ) → has t (of_sem s (held b)) ≡ true → has u (of_sem s (held c)) ≡ true → b ≡ c

pub record HasOneGrant (g : Group) (s : ℕ) (past : Past) : Type 0 where
  pub of_pcp : StandsOnce s (λ c. (pcp g c past).held)
  pub of_srp : StandsOnce s (λ c. srp g c past)

-- Each semaphore has at most one holder: under PCP and SRP it is granted once at most, in one cluster; under the other protocols the
-- holder is one by its form.
abbrev pub OneHolder : Type 0
OneHolder = EveryPast (λ g past. (s : ℕ) → HasOneGrant g s past)
