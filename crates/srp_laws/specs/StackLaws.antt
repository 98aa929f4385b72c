-- The theorem of the stack resource policy (Baker, Real-Time Systems, 1991), in two parts: after a job has begun, and before.
use Rattle.std.specs.Prelude.{◌≡◌, ℕ, true, false, ◌==◌, Some}
use Rattle.rt_task.specs.Validity.{IsValid}
use Rattle.rt_rules.specs.Numbers.{has}
use Rattle.rt_model.specs.BaseKeys.{above}
use Rattle.rt_model.specs.Group.{Group, home, tasks}
use Rattle.rt_model.specs.Past.{Past}
use Rattle.rt_model.specs.Reachable.{IsReachable}
use Rattle.rt_model.specs.Runs.{runs}
use Rattle.rt_model.specs.StackPolicy.{has_srp}
use Rattle.rt_model.specs.Tops.{eligible}
use Rattle.rt_model.specs.UnderWay.{under_way}
use Rattle.rt_laws.specs.BlockedOnce.{is_linked, takes_interrupts}
use Rattle.rt_laws.specs.EveryPast.{EveryPast}
use Rattle.srp_laws.specs.Sections.{awaits_start, delays, is_inside, is_no_higher, reaches, was_delayed}

-- ---- after a job has begun

-- Of a cluster with SRP semaphores, a job that has begun is eligible.
abbrev pub BegunIsEligible : Type 0
BegunIsEligible =
    EveryPast (λ g past. (t : ℕ) → has_srp g (home g t) ≡ true → under_way t past ≡ true → eligible g t past ≡ true)

-- What runs in its place is of higher base key.
abbrev pub BegunIsNotOvertaken : Type 0
BegunIsNotOvertaken =
    EveryPast (λ g past. (q t u : ℕ) → has_srp g (home g u) ≡ true → runs q past ≡ Some t → home g t ≡ home g u →
    under_way u past ≡ true → u == t ≡ false → above g past t u ≡ true)

-- ---- before it begins

-- At every moment one task of no higher preemption level holds what keeps a task from beginning.
abbrev pub OneReaches : Type 0
OneReaches =
    EveryPast (λ g past. (t u v : ℕ) → is_no_higher g t u ≡ true → is_no_higher g t v ≡ true → reaches g t u past ≡ true →
    reaches g t v past ≡ true → u ≡ v)

-- A job that has not begun and is not eligible is kept back by a task that reaches it.
abbrev pub DelayedReaches : Type 0
DelayedReaches =
    EveryPast (λ g past. (t : ℕ) → has_srp g (home g t) ≡ true → has t (tasks g) ≡ true → awaits_start g t past ≡ true →
    eligible g t past ≡ false → (u : ℕ) × (reaches g t u past ≡ true) × (u == t ≡ false))

-- Through a stretch one critical section of a lower task delays a job, where interrupts are taken before a Lock.
abbrev pub DelayedOnce : Type 0
DelayedOnce =
    EveryPast (λ g past. (t u v n m : ℕ) → has t (tasks g) ≡ true → takes_interrupts g past ≡ true → was_delayed g t u n past ≡ true →
    was_delayed g t v m past ≡ true → (u ≡ v) × (n ≡ m))

-- ---- moments that are reached

-- a job is delayed by a critical section
pub record ReachesDelayed : Type 0 where
  pub group : Group
  pub past : Past
  pub is_valid : IsValid group.setup
  pub is_made : IsReachable group past
  pub task : ℕ
  pub other : ℕ
  pub member : has task (tasks group) ≡ true
  pub prompt : takes_interrupts group past ≡ true
  pub waits : awaits_start group task past ≡ true
  pub delayed : delays group task other past ≡ true

-- a job waits to begin, and one of lower base key, which holds nothing, is linked in its place
pub record ReachesOvertaken : Type 0 where
  pub group : Group
  pub past : Past
  pub is_valid : IsValid group.setup
  pub is_made : IsReachable group past
  pub task : ℕ
  pub other : ℕ
  pub member : has task (tasks group) ≡ true
  pub prompt : takes_interrupts group past ≡ true
  pub waits : awaits_start group task past ≡ true
  pub lower : above group past task other ≡ true
  pub holds_nothing : is_inside group other past ≡ false
  pub linked : is_linked group (home group task) other past ≡ true
