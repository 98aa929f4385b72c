-- How far the facts of a task can grow.
use Rattle.std.proofs.Common.{◌≡◌, ℕ, zero, suc, ◌+◌, ◌≤◌, ◌⊎◌, inl, inr, max, Bool, true, false, ◌&&◌, List, [], ◌∷◌, ◌++◌, drop}
use Rattle.std.proofs.Common.{length, refl, arith}
use Rattle.std.specs.Prelude.{Option, None, Some, if◌then◌else◌, ◌==◌}
use Rattle.rt_task.specs.declared.Act.{Act}
use Rattle.rt_task.specs.declared.Act.TheVariants as acts
use Rattle.rt_task.specs.declared.Op.{Op}
use Rattle.rt_task.specs.declared.Op.TheVariants as ops
use Rattle.rt_rules.specs.Numbers.{has, is}
use Rattle.rt_rules.proofs.BoolLaws.{or_true}
use Rattle.rt_rules.proofs.MemberLaws.{equal_self, has-appended, has-one, length-one_more}
use Rattle.rt_model.specs.Answers.{newest}
use Rattle.rt_model.specs.Jobs.{done, this_job, used, position_in_body}
use Rattle.rt_model.specs.Past.{Clock, Acted, Past, now, did, operation, is_work, is_any, ends_job, accepted, entries_in}
use Rattle.rt_model.specs.Releases.{arrives, arrivals}
use Rattle.rt_model.specs.Sleep.{wakes, sleep_end}
use Rattle.rt_model.proofs.Steps.{done-step, used-step}
use Rattle.group_jobs.specs.Bounds.{FactsAreBounded, SleepFits, WakesAreBounded}
use Rattle.group_jobs.proofs.JobSteps.{position-step}

-- ---- counts

counts-step : (a b : Bool) (done ops_done acts : ℕ) → done + ops_done ≤ acts
    → (if a then done + 1 else done) + (if a then 0 else (if b then ops_done + 1 else ops_done)) ≤ acts + 1
counts-step true b done ops_done acts h = omega arith
counts-step false true done ops_done acts h = omega arith
counts-step false false done ops_done acts h = omega arith

counts-none : (t : ℕ) → done t [] + position_in_body t [] ≤ 0
unfolding done position_in_body this_job
counts-none t = omega arith

counts : (t : ℕ) (past : Past) → done t past + position_in_body t past ≤ entries_in past
counts t [] = counts-none t
counts t (Clock tick ∷ past) = rw (done-step t (Clock tick) past, position-step t (Clock tick) past) (counts t past)
counts t (Acted d ∷ past) =
    rw (done-step t (Acted d) past, position-step t (Acted d) past)
    (counts-step (is t d.ended) (is_any (did t (Acted d))) (done t past) (position_in_body t past) (entries_in past) (counts t past))

work-any : (o : Option Op) → is_work o ≡ true → is_any o ≡ true
work-any None h = cc
work-any (Some op) h = refl

used-none : (t : ℕ) → used t [] ≤ position_in_body t []
unfolding used position_in_body this_job
used-none t = omega arith

used-low : (t : ℕ) (past : Past) → used t past ≤ position_in_body t past
used-low t [] = used-none t
used-low t (e ∷ past) =
    rw (used-step t e past, position-step t e past)
    (by_cases (ends_job t e) (is_work (did t e)) (is_any (did t e)) (work-any (did t e)) (used-low t past))
  where
    by_cases : (a b c : Bool) → (b ≡ true → c ≡ true) → used t past ≤ position_in_body t past
        → (if a then 0 else (if b then used t past + 1 else used t past)) ≤
        (if a then 0 else (if c then position_in_body t past + 1 else position_in_body t past))
    by_cases true b c k h = omega arith
    by_cases false true true k h = omega arith
    by_cases false true false k h = let m : false ≡ true = k refl in cc
    by_cases false false true k h = omega arith
    by_cases false false false k h = h

arrived-low : (t : ℕ) (past : Past) → length (arrivals t past) ≤ entries_in past
unfolding arrivals
arrived-low t [] = omega arith
arrived-low t (Clock tick ∷ past) = arrived-low t past
arrived-low t (Acted d ∷ past) = by_case (arrives t d.act && accepted d.reply) (arrived-low t past)
  where
    by_case : (b : Bool) → length (arrivals t past) ≤ entries_in past
        → length (if b then arrivals t past ++ now past ∷ [] else arrivals t past) ≤ entries_in past + 1
    by_case true h = rw length-one_more (omega arith)
    by_case false h = omega arith

length-dropped : (k : ℕ) (xs : List ℕ) → length (drop k xs) ≤ length xs
length-dropped zero xs = omega arith
length-dropped (suc k) [] = omega arith
length-dropped (suc k) (x ∷ xs) = let h : length (drop k xs) ≤ length xs = length-dropped k xs in omega (arith, h)

-- ---- moments

has-dropped : (n k : ℕ) (xs : List ℕ) → has n (drop k xs) ≡ true → has n xs ≡ true
has-dropped n zero xs h = h
has-dropped n (suc k) [] h = h
has-dropped n (suc k) (x ∷ xs) h = rw (has-dropped n k xs h) (or_true (n == x))

has-newest : (n : ℕ) (xs : List ℕ) → newest xs ≡ Some n → has n xs ≡ true
has-newest n [] h = cc
has-newest n (x ∷ []) h = let e : x ≡ n = cc in rw (e, equal_self n)
has-newest n (x ∷ y ∷ ys) h = rw (has-newest n (y ∷ ys) h) (or_true (n == x))

arrivals-come : (t n : ℕ) (past : Past) → has n (arrivals t past) ≡ true → n ≤ now past
unfolding arrivals
arrivals-come t n [] h = cc
arrivals-come t n (Clock tick ∷ past) h = let r : n ≤ now past = arrivals-come t n past h in omega (arith, r)
arrivals-come t n (Acted d ∷ past) h = by_case (arrives t d.act && accepted d.reply) h (arrivals-come t n past)
  where
    split : (has n (arrivals t past) ≡ true) ⊎ (has n (now past ∷ []) ≡ true) → (has n (arrivals t past) ≡ true → n ≤ now past)
        → n ≤ now past
    split (inl k) before = before k
    split (inr k) before = let e : n ≡ now past = has-one n (now past) k in omega (arith, e)

    by_case : (b : Bool) → has n (if b then arrivals t past ++ now past ∷ [] else arrivals t past) ≡ true
        → (has n (arrivals t past) ≡ true → n ≤ now past) → n ≤ now past
    by_case true k before = split (has-appended n (arrivals t past) (now past ∷ []) k) before
    by_case false k before = before k

pub facts_are_bounded : FactsAreBounded
facts_are_bounded t past = record {
  counts = counts t past;
  used_low = used-low t past;
  arrived_low = arrived-low t past;
  few_to_come = length-dropped (done t past) (arrivals t past);
  newest_come = λ n h. arrivals-come t n past (has-newest n (arrivals t past) h);
  all_come = λ n h. arrivals-come t n past (has-dropped n (done t past) (arrivals t past) h);
}

-- ---- sleeps

sleep-fits : (limit clock : ℕ) (act : Act) → SleepFits limit act → sleep_end clock (operation act) ≤ clock + limit
sleep-fits limit clock acts.Tick h = omega arith
sleep-fits limit clock acts.Irq h = omega arith
sleep-fits limit clock (acts.Arrive t) h = omega arith
sleep-fits limit clock (acts.Do ops.Work) h = omega arith
sleep-fits limit clock (acts.Do (ops.Lock n)) h = omega arith
sleep-fits limit clock (acts.Do (ops.Unlock n)) h = omega arith
sleep-fits limit clock (acts.Do (ops.Sleep n)) h = omega arith
sleep-fits limit clock (acts.Do ops.NpOn) h = omega arith
sleep-fits limit clock (acts.Do ops.NpOff) h = omega arith
sleep-fits limit clock (acts.Do ops.End) h = omega arith

pub wakes_are_bounded : WakesAreBounded
unfolding wakes
wakes_are_bounded limit t [] h = omega arith
wakes_are_bounded limit t (Clock tick ∷ past) h = let r : wakes t past ≤ now past + limit = wakes_are_bounded limit t past h in
    omega (arith, r)
wakes_are_bounded limit t (Acted d ∷ past) h =
    by_case (is t d.ended) (is t d.task && accepted d.reply) (sleep-fits limit (now past) d.act h.0) (wakes_are_bounded limit t past h.1)
  where
    by_case : (a b : Bool) → sleep_end (now past) (operation d.act) ≤ now past + limit → wakes t past ≤ now past + limit
        → (if a then 0 else max (sleep_end (now past) (if b then operation d.act else None)) (wakes t past)) ≤ now past + limit
    by_case true b k m = omega arith
    by_case false true k m = omega (arith, k, m)
    by_case false false k m = omega (arith, m)
