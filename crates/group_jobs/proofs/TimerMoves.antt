-- The timers of a group after a move.
use Rattle.std.proofs.Common.{◌≡◌, ℕ, ◌<◌, ◌≤◌, min, max, Bool, true, false, ◌&&◌, ◌||◌, [], ◌∷◌, length, replicate}
use Rattle.std.proofs.Common.{refl, sym, ap, ◌∙◌, arith}
use Rattle.std.specs.Prelude.{Option, None, Some, if◌then◌else◌, nat_lt, nat_le}
use Rattle.std.proofs.lemmas.Bool.Decides.{nat_tests}
use Rattle.rt_task.specs.declared.Act.{Act}
use Rattle.rt_task.specs.declared.Kind.{Kind}
use Rattle.rt_task.specs.declared.Kind.TheVariants.{Periodic, Sporadic}
use Rattle.rt_task.specs.declared.Op.{Op}
use Rattle.rt_task.specs.declared.Op.TheVariants as ops
use Rattle.rt_task.specs.declared.Task.{Task}
use Rattle.rt_task.specs.Validity.{IsValid}
use Rattle.rt_rules.specs.Numbers.{has, is}
use Rattle.rt_rules.specs.Placing.{tasks_in}
use Rattle.rt_rules.proofs.BoolLaws.{both, clash, neither}
use Rattle.rt_rules.proofs.MemberLaws.{is-some}
use Rattle.rt_rules.proofs.PlacingLaws.{has-tasks_in}
use Rattle.rt_model.specs.Answers.{answer}
use Rattle.rt_model.specs.Group.{Group, task, tasks}
use Rattle.rt_model.specs.Reachable.{IsReachable}
use Rattle.rt_model.specs.Past.{Clock, Past, now, accepted}
use Rattle.rt_model.specs.Releases.{has_come}
use Rattle.rt_model.specs.Runs.{runs}
use Rattle.rt_model.specs.Sleep.{wakes}
use Rattle.rt_laws.proofs.jobs.Running.{running}
use Rattle.rt_laws.proofs.ValidSets.{rules_of}
use Rattle.rt_changes.specs.Touched.{arriving, touched_by, lies_in, release_lies_in, comes_due}
use Rattle.rt_changes.proofs.rankings.TouchedTasks.{clock_touches_due}
use Rattle.group_jobs.specs.Facts.{JobFacts, job_facts}
use Rattle.group_jobs.specs.FactMoves.{with_act}
use Rattle.group_jobs.specs.Kept.{IsOfGroup}
use Rattle.group_jobs.specs.Moves.{op_done}
use Rattle.group_jobs.specs.Timers.{if_later, first_of_two, timer, timer_at, TimersAtOpening}
use Rattle.group_jobs.specs.Timers.{TimersAfterAct, is_sleep, TimerStays, AreTakenOut, ticks_without, TimersAfterClock}
use Rattle.group_jobs.specs.Timers.{TimerIsRead}
use Rattle.group_jobs.specs.Words.{release_by_kind, release_of}
use Rattle.group_jobs.proofs.CpuSteps.{clock_stays}
use Rattle.group_jobs.proofs.JobSteps.{other_jobs_stay}
use Rattle.group_jobs.proofs.KeptMoves.{task-range, replicated, length-replicated}
use Rattle.group_jobs.proofs.ReadWords.{release-read}
use Rattle.group_jobs.proofs.TimerSets.{timers_are_renewed, due_are_taken_out}

-- ---- the opening

either-way : (b : Bool) (o : Option ℕ) → o ≡ (if b then o else o)
either-way true o = refl
either-way false o = refl

pub timers_at_opening : TimersAtOpening
timers_at_opening g room fits =
    timers_are_renewed (tasks g) (tasks g) (λ t. None) (timer_at g []) (replicate room None) (λ t h. h) (λ t h k. absurd (clash _ h k))
    (record { room = inside; armed = λ t. replicated room t None ∙ either-way (has t (tasks g)) None })
  where
    inside : (t : ℕ) → has t (tasks g) ≡ true → t < length (replicate {A = Option ℕ} room None)
    inside t h = let r = task-range g t h in let n : length (replicate {A = Option ℕ} room None) ≡ room = length-replicated room None in
        omega (arith, r.1, n, fits)

-- ---- an act

-- the tasks that an act touches are of the group
touched-inside : (g : Group) (past : Past) → IsValid g.setup → IsReachable g past → (q : ℕ) (act : Act) → IsOfGroup g q act → (t : ℕ)
    → has t (touched_by g q act past) ≡ true → has t (tasks g) ≡ true
touched-inside g past valid made q act of_group t h = by_case (accepted (answer g q act past)) h
  where
    of_two : (a b : Bool) → a || (b || false) ≡ true → (a ≡ true → has t (tasks g) ≡ true) → (b ≡ true → has t (tasks g) ≡ true)
        → has t (tasks g) ≡ true
    of_two true b k x y = x refl
    of_two false true k x y = y refl
    of_two false false k x y = cc

    by_case : (b : Bool) → has t (if b then tasks_in (runs q past ∷ arriving act ∷ []) else []) ≡ true → has t (tasks g) ≡ true
    by_case false k = cc
    by_case true k = of_two (is t (runs q past)) (is t (arriving act))
        (rw (has-tasks_in t (runs q past) (arriving act ∷ []), has-tasks_in t (arriving act) []) at k)
        (λ r. (running g (rules_of g valid) made q t (is-some t (runs q past) r)).member)
        (λ r. of_group.arrives_in t (is-some t (arriving act) r))

pub timers_after_act : TimersAfterAct
timers_after_act g past valid made q act ticks of_group h =
    timers_are_renewed (touched_by g q act past) (tasks g) (timer_at g past) (timer_at g (with_act g q act past)) ticks
    (touched-inside g past valid made q act of_group)
    (λ t k m. ap (timer (now past) (task g t)) (sym (other_jobs_stay g past valid made q t act m)))
    h

-- ---- an operation that goes on

zero-max : (n : ℕ) → max 0 n ≡ n
zero-max n = omega arith

pub release-op : (given : Task) (clock : ℕ) (op : Op) (job : JobFacts) → release_of given (op_done clock op job) ≡ release_of given job
release-op given clock op job = by_kind given.kind
  where
    by_kind : (x : Kind) → release_by_kind x given (op_done clock op job) ≡ release_by_kind x given job
    by_kind Periodic = refl
    by_kind Sporadic = refl

pub wakes-op : (clock : ℕ) (op : Op) (job : JobFacts) → is_sleep op ≡ false → (op_done clock op job).wakes ≡ job.wakes
wakes-op clock ops.Work job h = zero-max job.wakes
wakes-op clock (ops.Lock n) job h = zero-max job.wakes
wakes-op clock (ops.Unlock n) job h = zero-max job.wakes
wakes-op clock (ops.Sleep n) job h = cc
wakes-op clock ops.NpOn job h = zero-max job.wakes
wakes-op clock ops.NpOff job h = zero-max job.wakes
wakes-op clock ops.End job h = zero-max job.wakes

pub timer_stays : TimerStays
timer_stays clock given op job h =
    ap (λ o. first_of_two (if_later clock o) (if_later clock (Some (op_done clock op job).wakes))) (release-op given clock op job)
    ∙ ap (λ n. first_of_two (if_later clock (release_of given job)) (if_later clock (Some n))) (wakes-op clock op job h)

-- ---- the clock

least-le : (a b c : ℕ) → nat_le a c || nat_le b c ≡ nat_le (min a b) c
least-le a b c = grind (arith, nat_tests)

or-none : (a : Bool) → a || false ≡ a
or-none true = refl
or-none false = refl

come-two : (from to : ℕ) (o : Option ℕ) (w : ℕ)
    → release_lies_in from to o || lies_in from to w ≡ has_come to (first_of_two (if_later from o) (if_later from (Some w)))
come-two from to None w = by_case (nat_lt from w)
  where
    by_case : (b : Bool) → b && nat_le w to ≡ has_come to (first_of_two None (if b then Some w else None))
    by_case true = refl
    by_case false = refl
come-two from to (Some r) w = by_cases (nat_lt from r) (nat_lt from w)
  where
    by_cases : (a b : Bool)
        → a && nat_le r to || b && nat_le w to ≡ has_come to (first_of_two (if a then Some r else None) (if b then Some w else None))
    by_cases true true = least-le r w to
    by_cases true false = or-none (nat_le r to)
    by_cases false true = refl
    by_cases false false = refl

pub due-timer : (g : Group) (tick t : ℕ) (past : Past) → comes_due g tick t past ≡ has_come (max (now past) tick) (timer_at g past t)
due-timer g tick t past =
    ap (λ o. release_lies_in (now past) (max (now past) tick) o || lies_in (now past) (max (now past) tick) (wakes t past))
    (release-read g t past) ∙ come-two (now past) (max (now past) tick) (release_of (task g t) (job_facts t past)) (wakes t past)

-- what does not come as the clock moves is still to come
pub if_later-same : (from to : ℕ) (o : Option ℕ) → from ≤ to → release_lies_in from to o ≡ false → if_later from o ≡ if_later to o
if_later-same from to None h k = refl
if_later-same from to (Some r) h k = let e : nat_lt from r ≡ nat_lt to r = grind (arith, nat_tests, h, k) in rw e

first-same : (from to : ℕ) (o : Option ℕ) (w : ℕ) → from ≤ to → release_lies_in from to o || lies_in from to w ≡ false
    → first_of_two (if_later from o) (if_later from (Some w)) ≡ first_of_two (if_later to o) (if_later to (Some w))
first-same from to o w h k =
    let n = neither (release_lies_in from to o) (lies_in from to w) k in
    ap (λ x. first_of_two x (if_later from (Some w))) (if_later-same from to o h n.0)
    ∙ ap (λ x. first_of_two (if_later to o) x) (if_later-same from to (Some w) h n.1)

timer-later : (g : Group) (tick t : ℕ) (past : Past) → comes_due g tick t past ≡ false
    → timer (now past) (task g t) (job_facts t past) ≡ timer (max (now past) tick) (task g t) (job_facts t past)
timer-later g tick t past h =
    let later : now past ≤ max (now past) tick = omega arith in
    first-same (now past) (max (now past) tick) (release_of (task g t) (job_facts t past)) (wakes t past) later
    (ap (λ o. release_lies_in (now past) (max (now past) tick) o || lies_in (now past) (max (now past) tick) (wakes t past))
    (sym (release-read g t past)) ∙ h)

pub timers_after_clock : TimersAfterClock
timers_after_clock g past valid made tick ticks us h d = record {
  once = out.once;
  due = due;
  others = λ t k m. clock_touches_due g past valid made tick t (not_due t k m);
  kept = timers_are_renewed us (tasks g) (λ t. if has t us then None else timer_at g past t) (timer_at g (Clock tick ∷ past))
      (ticks_without us ticks) inside same out.others;
}
  where
    out : AreTakenOut (max (now past) tick) (tasks g) (timer_at g past) ticks us
    out = due_are_taken_out (max (now past) tick) (tasks g) (timer_at g past) ticks us h d

    due : (t : ℕ) → has t us ≡ has t (tasks g) && comes_due g tick t past
    due t = out.due t ∙ ap (λ b. has t (tasks g) && b) (sym (due-timer g tick t past))

    not_due : (t : ℕ) → has t (tasks g) ≡ true → has t us ≡ false → comes_due g tick t past ≡ false
    not_due t k m = let e : has t (tasks g) && comes_due g tick t past ≡ false = sym (due t) ∙ m in rw k at e

    inside : (t : ℕ) → has t us ≡ true → has t (tasks g) ≡ true
    inside t k = (both (has t (tasks g)) (comes_due g tick t past) (sym (due t) ∙ k)).0

    same : (t : ℕ) → has t (tasks g) ≡ true → has t us ≡ false
        → (if has t us then None else timer_at g past t) ≡ timer_at g (Clock tick ∷ past) t
    same t k m = rw m (timer-later g tick t past (not_due t k m)
        ∙ ap (timer (max (now past) tick) (task g t)) (sym ((clock_stays g past valid made tick).jobs t)))

pub timer_is_read : TimerIsRead
timer_is_read g past k kept t there = ap (λ n. timer n (task g t) (job_facts t past)) (sym kept.clock_is)
    ∙ ap (timer k.clock (task g t)) (sym (kept.jobs_are t there))
