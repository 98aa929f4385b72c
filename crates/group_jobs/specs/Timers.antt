-- Timers: at each task's number the moment that it waits for, and what moves make of them.
use Rattle.std.specs.Prelude.{◌≡◌, ℕ, ◌<◌, min, max, Bool, true, false, ◌&&◌, nat_lt, List, [], ◌∷◌, ◌++◌, length, replicate, Option}
use Rattle.std.specs.Prelude.{None}
use Rattle.std.specs.Prelude.{Some, if◌then◌else◌, slice_set}
use Rattle.rt_task.specs.declared.Act.{Act}
use Rattle.rt_task.specs.declared.Op.{Op}
use Rattle.rt_task.specs.declared.Op.TheVariants as ops
use Rattle.rt_task.specs.declared.Task.{Task}
use Rattle.rt_rules.specs.Distinct.{IsDistinct}
use Rattle.rt_rules.specs.Numbers.{has}
use Rattle.rt_model.specs.Group.{Group, task, tasks}
use Rattle.rt_model.specs.Past.{Clock, Past, now}
use Rattle.rt_model.specs.Releases.{has_come}
use Rattle.rt_laws.specs.EveryPast.{EveryPast}
use Rattle.rt_changes.specs.Touched.{touched_by, comes_due, SameReady}
use Rattle.release_queue.specs.Timers.{tick_at, IsNextDue, NothingDue}
use Rattle.group_jobs.specs.Facts.{JobFacts, job_facts}
use Rattle.group_jobs.specs.FactMoves.{with_act}
use Rattle.group_jobs.specs.Kept.{Kept, IsKept, IsOfGroup, job_of}
use Rattle.group_jobs.specs.Moves.{op_done}
use Rattle.group_jobs.specs.Words.{release_of}

-- ---- any timers

-- the tasks of the list wait for their moments, where they have one, and nothing else waits
pub record AreArmed (ts : List ℕ) (timer : ℕ → Option ℕ) (ticks : List (Option ℕ)) : Type 0 where
  pub room : (t : ℕ) → has t ts ≡ true → t < length ticks
  pub armed : (t : ℕ) → tick_at ticks t ≡ (if has t ts then timer t else None)

-- each of these tasks waits for its moment now, or no longer
abbrev pub renewed : (ℕ → Option ℕ) → List ℕ → List (Option ℕ) → List (Option ℕ)
renewed timer [] ticks = ticks
renewed timer (t ∷ touched) ticks = renewed timer touched (slice_set ticks t (timer t))

-- Where only the moments of some tasks change, those alone are renewed.
abbrev pub TimersAreRenewed : Type 0
TimersAreRenewed = (touched ts : List ℕ) (timer timer' : ℕ → Option ℕ) (ticks : List (Option ℕ))
    → ((t : ℕ) → has t touched ≡ true → has t ts ≡ true) → ((t : ℕ) → has t ts ≡ true → has t touched ≡ false → timer t ≡ timer' t)
    → AreArmed ts timer ticks → AreArmed ts timer' (renewed timer' touched ticks)

-- these tasks are taken out one after the other, each as the next that is due, until none is
abbrev pub AreDue : ℕ → List (Option ℕ) → List ℕ → Type 0
AreDue clock ticks [] = NothingDue ticks clock
AreDue clock ticks (u ∷ us) = IsNextDue ticks clock u × AreDue clock (slice_set ticks u None) us

abbrev pub ticks_without : List ℕ → List (Option ℕ) → List (Option ℕ)
ticks_without [] ticks = ticks
ticks_without (u ∷ us) ticks = ticks_without us (slice_set ticks u None)

-- so it is so far: these have been taken out, and this is left
pub record AreDueSoFar (clock : ℕ) (ticks : List (Option ℕ)) (us : List ℕ) (left : List (Option ℕ)) : Type 0 where
  pub goes_on : (vs : List ℕ) → AreDue clock left vs → AreDue clock ticks (us ++ vs)
  pub left_is : left ≡ ticks_without us ticks

-- They can be taken out one by one, from none on until none is due.
pub record AreOneByOne (clock : ℕ) (ticks : List (Option ℕ)) : Type 0 where
  pub at_first : AreDueSoFar clock ticks [] ticks
  pub one_more : (us : List ℕ) (u : ℕ) (left : List (Option ℕ)) → AreDueSoFar clock ticks us left → IsNextDue left clock u
      → AreDueSoFar clock ticks (us ++ u ∷ []) (slice_set left u None)
  pub at_last : (us : List ℕ) (left : List (Option ℕ)) → AreDueSoFar clock ticks us left → NothingDue left clock → AreDue clock ticks us

abbrev pub DueOneByOne : Type 0
DueOneByOne = (clock : ℕ) (ticks : List (Option ℕ)) → AreOneByOne clock ticks

-- the tasks that are taken out are just those whose moment has come, each once, and the others wait on
pub record AreTakenOut (clock : ℕ) (ts : List ℕ) (timer : ℕ → Option ℕ) (ticks : List (Option ℕ)) (us : List ℕ) : Type 0 where
  pub once : IsDistinct us
  pub due : (t : ℕ) → has t us ≡ has t ts && has_come clock (timer t)
  pub others : AreArmed ts (λ t. if has t us then None else timer t) (ticks_without us ticks)

abbrev pub DueAreTakenOut : Type 0
DueAreTakenOut = (clock : ℕ) (ts : List ℕ) (timer : ℕ → Option ℕ) (ticks : List (Option ℕ)) (us : List ℕ) → AreArmed ts timer ticks
    → AreDue clock ticks us → AreTakenOut clock ts timer ticks us

-- ---- a task waits for its release and for the end of its sleep, whichever comes first

abbrev pub if_later : ℕ → Option ℕ → Option ℕ
if_later clock None = None
if_later clock (Some n) = if nat_lt clock n then Some n else None

abbrev pub first_of_two : Option ℕ → Option ℕ → Option ℕ
first_of_two None o = o
first_of_two (Some a) None = Some a
first_of_two (Some a) (Some b) = Some (min a b)

abbrev pub timer : ℕ → Task → JobFacts → Option ℕ
timer clock task job = first_of_two (if_later clock (release_of task job)) (if_later clock (Some job.wakes))

abbrev pub timer_at : Group → Past → ℕ → Option ℕ
timer_at g past t = timer (now past) (task g t) (job_facts t past)

-- the tasks of the group that have something to wait for are armed
abbrev pub TimersAreKept : Group → Past → List (Option ℕ) → Type 0
TimersAreKept g past ticks = AreArmed (tasks g) (timer_at g past) ticks

-- At the opening each task is armed once.
abbrev pub TimersAtOpening : Type 0
TimersAtOpening = (g : Group) (room : ℕ) → length g.setup.tasks < room
    → TimersAreKept g [] (renewed (timer_at g []) (tasks g) (replicate room None))

-- After an act the tasks that it touches are renewed.
abbrev pub TimersAfterAct : Type 0
TimersAfterAct = EveryPast (λ g past. (q : ℕ) (act : Act) (ticks : List (Option ℕ)) → IsOfGroup g q act → TimersAreKept g past ticks
    → TimersAreKept g (with_act g q act past) (renewed (timer_at g (with_act g q act past)) (touched_by g q act past) ticks))

-- an operation but a Sleep leaves the moment of a job that goes on
abbrev pub is_sleep : Op → Bool
is_sleep (ops.Sleep n) = true
is_sleep _ = false

abbrev pub TimerStays : Type 0
TimerStays = (clock : ℕ) (task : Task) (op : Op) (job : JobFacts) → is_sleep op ≡ false
    → timer clock task (op_done clock op job) ≡ timer clock task job

-- as the clock moves, those that are due at the new clock are taken out: they are just the tasks that come due, no other task's
-- readiness changes, and they alone are renewed
pub record AreMoved (g : Group) (tick : ℕ) (past : Past) (ticks : List (Option ℕ)) (us : List ℕ) : Type 0 where
  pub once : IsDistinct us
  pub due : (t : ℕ) → has t us ≡ has t (tasks g) && comes_due g tick t past
  pub others : (t : ℕ) → has t (tasks g) ≡ true → has t us ≡ false → SameReady g t past (Clock tick ∷ past)
  pub kept : TimersAreKept g (Clock tick ∷ past) (renewed (timer_at g (Clock tick ∷ past)) us (ticks_without us ticks))

abbrev pub TimersAfterClock : Type 0
TimersAfterClock = EveryPast (λ g past. (tick : ℕ) (ticks : List (Option ℕ)) (us : List ℕ) → TimersAreKept g past ticks
    → AreDue (max (now past) tick) ticks us → AreMoved g tick past ticks us)

-- What a task waits for is read off what is kept.
abbrev pub TimerIsRead : Type 0
TimerIsRead = (g : Group) (past : Past) (k : Kept) → IsKept g past k → (t : ℕ) → has t (tasks g) ≡ true
    → timer_at g past t ≡ timer k.clock (task g t) (job_of k t)
