-- An act changes only facts of the task that its processor runs and of the one that arrives, a clock move only whether tasks are ready that come due.
use Rattle.std.proofs.Common.{◌≡◌, ℕ, Bool, true, false, max, [], ◌∷◌, refl, sym, ◌∙◌, arith}
use Rattle.std.specs.Prelude.{nat_lt, Option, None, Some, if◌then◌else◌}
use Rattle.std.proofs.lemmas.Bool.Decides.{nat_tests}
use Rattle.rt_task.specs.declared.Act.{Act}
use Rattle.rt_task.specs.declared.Act.TheVariants as acts
use Rattle.rt_task.specs.declared.Kind.{Kind}
use Rattle.rt_task.specs.declared.Kind.TheVariants.{Periodic, Sporadic}
use Rattle.rt_rules.specs.Numbers.{has, is}
use Rattle.rt_rules.specs.Placing.{tasks_in}
use Rattle.rt_rules.proofs.BoolLaws.{unless, clash, neither, and_false}
use Rattle.rt_rules.proofs.MemberLaws.{some-is}
use Rattle.rt_rules.proofs.PlacingLaws.{has-tasks_in}
use Rattle.rt_model.specs.Answers.{answer}
use Rattle.rt_model.specs.Group.{Group, task}
use Rattle.rt_model.specs.Jobs.{done, this_job, used, position_in_body}
use Rattle.rt_model.specs.NonPreemptive.{non_preemptive}
use Rattle.rt_model.specs.Outcomes.{past_act, ended}
use Rattle.rt_model.specs.Past.{PastAct, Event, Clock, Acted, Past, now, did, ends_job, accepted}
use Rattle.rt_model.specs.Releases.{arrives, arrivals, has_come, release_by, release, deadline, is_released, opens_early, exists, ready}
use Rattle.rt_model.specs.Runs.{runs}
use Rattle.rt_model.specs.Sleep.{wakes, sleeps}
use Rattle.rt_model.proofs.Steps.{done-step, used-step}
use Rattle.rt_laws.proofs.jobs.Running.{ended-runs}
use Rattle.rt_changes.specs.Touched.{arriving, touched_by, SameJob, SameReady, SameFacts, lies_in, release_lies_in, ActsTouchFew, ClockKeepsJobs, ClockTouchesDue}

-- an event that is none of the task's
pub record IsNone (t : ℕ) (e : Event) (past : Past) : Type 0 where
  pub did_none : did t e ≡ None
  pub goes_on : ends_job t e ≡ false
  pub arrivals_same : arrivals t (e ∷ past) ≡ arrivals t past

-- ---- what is counted

position-none : (t : ℕ) (e : Event) (past : Past) → IsNone t e past → position_in_body t (e ∷ past) ≡ position_in_body t past
unfolding position_in_body this_job
position-none t e past n = rw (n.goes_on, n.did_none)

used-none : (t : ℕ) (e : Event) (past : Past) → IsNone t e past → used t (e ∷ past) ≡ used t past
used-none t e past n = used-step t e past ∙ rw (n.goes_on, n.did_none)

wakes-none : (t : ℕ) (e : Event) (past : Past) → IsNone t e past → wakes t (e ∷ past) ≡ wakes t past
unfolding wakes
wakes-none t e past n = rw (n.goes_on, n.did_none) (omega arith)

np-none : (t : ℕ) (e : Event) (past : Past) → IsNone t e past → non_preemptive t (e ∷ past) ≡ non_preemptive t past
unfolding non_preemptive
np-none t e past n = rw (n.goes_on, n.did_none)

release-none : (g : Group) (t : ℕ) (past past' : Past) → done t past' ≡ done t past → arrivals t past' ≡ arrivals t past → release g t past' ≡ release g t past
unfolding release release_by
release-none g t past past' d a = rw d (by_kind (task g t).kind)
  where
    by_kind : (k : Kind) → release_by g k t (done t past) past' ≡ release_by g k t (done t past) past
    by_kind Periodic = refl
    by_kind Sporadic = rw a

pub job-none : (g : Group) (t : ℕ) (e : Event) (past : Past) → IsNone t e past → SameJob g t past (e ∷ past)
unfolding deadline
job-none g t e past n =
    let d : done t (e ∷ past) ≡ done t past = done-step t e past ∙ rw n.goes_on in
    let r : release g t (e ∷ past) ≡ release g t past = release-none g t past (e ∷ past) d n.arrivals_same in
    record {
      done_same = d;
      used_same = used-none t e past n;
      position_same = position-none t e past n;
      wakes_same = wakes-none t e past n;
      np_same = np-none t e past n;
      arrivals_same = n.arrivals_same;
      release_same = r;
      deadline_same = rw r;
    }

early-same : (g : Group) (t : ℕ) (past past' : Past) → done t past' ≡ done t past → is_released g t past' ≡ is_released g t past → opens_early g t past' ≡ opens_early g t past
unfolding opens_early
early-same g t past past' ends released = rw (ends, released)

-- where the release has come as before, and the sleep is over as before, the job is ready as before
pub ready-same : (g : Group) (t : ℕ) (past past' : Past) → SameJob g t past past' → has_come (now past') (release g t past) ≡ has_come (now past) (release g t past) → nat_lt (now past') (wakes t past) ≡ nat_lt (now past) (wakes t past) → SameReady g t past past'
unfolding is_released exists sleeps ready
ready-same g t past past' s come wake =
    let released : has_come (now past') (release g t past') ≡ has_come (now past) (release g t past) = rw s.release_same come in
    let sleeping : nat_lt (now past') (wakes t past') ≡ nat_lt (now past) (wakes t past) = rw s.wakes_same wake in
    let early : opens_early g t past' ≡ opens_early g t past = early-same g t past past' s.done_same released in
    record {
      released_same = released;
      early_same = early;
      exists_same = rw (released, early);
      sleeps_same = sleeping;
      ready_same = rw (released, early, sleeping);
    }

-- ---- an act

pub facts-none : (g : Group) (t : ℕ) (d : PastAct) (past : Past) → IsNone t (Acted d) past → SameFacts g t past (Acted d ∷ past)
facts-none g t d past n = let s : SameJob g t past (Acted d ∷ past) = job-none g t (Acted d) past n in record { same_job = s; same_ready = ready-same g t past (Acted d ∷ past) s refl refl }

-- an act that is refused is none of any task
pub refused-none : (g : Group) (q : ℕ) (act : Act) (past : Past) (t : ℕ) → accepted (answer g q act past) ≡ false → IsNone t (Acted (past_act g q act past)) past
unfolding past_act ended arrivals
refused-none g q act past t refused = record {
  did_none = rw (refused, and_false (is t (runs q past)));
  goes_on = rw refused;
  arrivals_same = rw (refused, and_false (arrives t act));
}

-- an act is none of a task that does not run there and does not arrive
not_arriving : (t : ℕ) (act : Act) → is t (arriving act) ≡ arrives t act
not_arriving t acts.Tick = refl
not_arriving t acts.Irq = refl
not_arriving t (acts.Arrive u) = refl
not_arriving t (acts.Do op) = refl

pub other-none : (g : Group) (q : ℕ) (act : Act) (past : Past) (t : ℕ) → is t (runs q past) ≡ false → is t (arriving act) ≡ false → IsNone t (Acted (past_act g q act past)) past
unfolding past_act arrivals
other-none g q act past t elsewhere stays =
    let arrives_not : arrives t act ≡ false = sym (not_arriving t act) ∙ stays in
    record {
      did_none = rw elsewhere;
      goes_on = unless _ (λ h. clash _ (some-is t (runs q past) (ended-runs g q t act past h)) elsewhere);
      arrivals_same = rw arrives_not;
    }

pub touched-none : (g : Group) (q : ℕ) (act : Act) (past : Past) (t : ℕ) → has t (touched_by g q act past) ≡ false → IsNone t (Acted (past_act g q act past)) past
touched-none g q act past t h = by_case (accepted (answer g q act past)) refl h
  where
    by_case : (b : Bool) → accepted (answer g q act past) ≡ b → has t (if b then tasks_in (runs q past ∷ arriving act ∷ []) else []) ≡ false → IsNone t (Acted (past_act g q act past)) past
    by_case true e k =
        let p = neither (is t (runs q past)) _ (rw (has-tasks_in t (runs q past) (arriving act ∷ [])) at k) in
        let o = neither (is t (arriving act)) _ (rw (has-tasks_in t (arriving act) []) at p.1) in
        other-none g q act past t p.0 o.0
    by_case false e k = refused-none g q act past t e

pub acts_touch_few : ActsTouchFew
acts_touch_few g past valid made q act t h = facts-none g t (past_act g q act past) past (touched-none g q act past t h)

-- ---- the clock

pub clock-none : (tick t : ℕ) (past : Past) → IsNone t (Clock tick) past
unfolding arrivals
clock-none tick t past = record { did_none = refl; goes_on = refl; arrivals_same = refl }

pub clock_keeps_jobs : ClockKeepsJobs
clock_keeps_jobs g past valid made tick t = job-none g t (Clock tick) past (clock-none tick t past)

come-same : (from tick : ℕ) (o : Option ℕ) → release_lies_in from (max from tick) o ≡ false → has_come (max from tick) o ≡ has_come from o
come-same from tick None h = refl
come-same from tick (Some r) h = grind (arith, nat_tests, h)

wake-same : (from tick n : ℕ) → lies_in from (max from tick) n ≡ false → nat_lt (max from tick) n ≡ nat_lt from n
wake-same from tick n h = grind (arith, nat_tests, h)

pub clock_touches_due : ClockTouchesDue
clock_touches_due g past valid made tick t h =
    let q = neither (release_lies_in (now past) (max (now past) tick) (release g t past)) (lies_in (now past) (max (now past) tick) (wakes t past)) h in
    ready-same g t past (Clock tick ∷ past) (clock_keeps_jobs g past valid made tick t) (come-same (now past) tick (release g t past) q.0) (wake-same (now past) tick (wakes t past) q.1)
