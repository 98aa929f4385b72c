-- What one more event does to each count over the past, and one more entry to a history.
use Rattle.std.proofs.Common.{◌≡◌, ℕ, ◌+◌, ◌*◌, ◌≤◌, length, arith, Bool, true, false, List, [], ◌∷◌, ◌++◌, refl}
use Rattle.std.specs.Prelude.{if◌then◌else◌, None, Some, ◌==◌}
use Rattle.rt_base.specs.declared.CpuNo.{CpuNo}
use Rattle.rt_base.specs.declared.Tick.{Tick}
use Rattle.rt_rules.specs.declared.history.Entry.{Entry}
use Rattle.rt_task.specs.declared.Step.{Step}
use Rattle.rt_task.specs.declared.Act.{Act}
use Rattle.rt_task.specs.declared.Act.TheVariants as acts
use Rattle.rt_rules.specs.Omlp.{omlp_after}
use Rattle.rt_rules.specs.Placing.{placed}
use Rattle.rt_model.specs.Answers.{answer}
use Rattle.rt_model.specs.BaseKeys.{above}
use Rattle.rt_model.specs.Group.{Group, cpus}
use Rattle.rt_model.specs.Histories.{reply_to, after, clock_moved, past_from, past_of, IsLegalFrom, IsLegal}
use Rattle.rt_model.specs.Jobs.{done, this_job, used}
use Rattle.rt_model.specs.Links.{links, runs_of}
use Rattle.rt_model.specs.Outcomes.{past_act, ended, ended_by}
use Rattle.rt_model.specs.Past.{PastAct, Event, Clock, Acted, Past, did, is_work, ends_job, sem_act, number_of}
use Rattle.rt_model.specs.Runs.{runs, runs_after}
use Rattle.rt_model.specs.Semaphores.{omlp, cluster_of, at_sem}
use Rattle.rt_model.specs.Tops.{top}
use Rattle.rt_task.specs.declared.Op.TheVariants as ops
use Rattle.rt_rules.specs.declared.history.Reply.TheVariants as replies

pub done-step : (t : ℕ) (e : Event) (past : Past) → done t (e ∷ past) ≡ (if ends_job t e then done t past + 1 else done t past)
unfolding done
done-step t e past = refl

-- at the end of a job the events of the next one begin
pub this_job-step : (t : ℕ) (e : Event) (past : Past) → this_job t (e ∷ past) ≡ (if ends_job t e then [] else (e ∷ this_job t past))
unfolding this_job
this_job-step t e past = refl

pub used-step : (t : ℕ) (e : Event) (past : Past) → used t (e ∷ past) ≡ (if ends_job t e then 0 else (if is_work (did t e) then used t past + 1 else used t past))
unfolding used this_job
used-step t e past = by_case (ends_job t e)
  where
    by_case : (b : Bool) → number_of (λ x. is_work (did t x)) (if b then [] else (e ∷ this_job t past)) ≡ (if b then 0 else (if is_work (did t e) then used t past + 1 else used t past))
    by_case true = refl
    by_case false = refl

pub runs-clock : (q tick : ℕ) (past : Past) → runs q (Clock tick ∷ past) ≡ runs q past
unfolding runs
runs-clock q tick past = refl

pub links-step : (g : Group) (c : ℕ) (e : Event) (past : Past) → links g c (e ∷ past) ≡ placed (top g c (e ∷ past)) (runs_of g c (e ∷ past)) (links g c past)
unfolding links
links-step g c e past = refl

pub omlp-step : (g : Group) (s : ℕ) (e : Event) (past : Past) → omlp g s (e ∷ past) ≡ omlp_after (cpus g (cluster_of g s)) (above g past) (at_sem s (sem_act e)) (omlp g s past)
unfolding omlp
omlp-step g s e past = refl

pub past_from-append : (g : Group) (es : List Entry) (past : Past) (e : Entry) → past_from g past (es ++ e ∷ []) ≡ after g e.step (past_from g past es)
unfolding past_from
past_from-append g [] past e = refl
past_from-append g (x ∷ es) past e = past_from-append g es (after g x.step past) e

pub past_of-append : (g : Group) (es : List Entry) (e : Entry) → past_of g (es ++ e ∷ []) ≡ after g e.step (past_of g es)
unfolding past_of
past_of-append g es e = past_from-append g es [] e

pub after-acted : (g : Group) (step : Step) (past : Past) → after g step past ≡ Acted (past_act g step.cpu.0 step.act (clock_moved step past)) ∷ Clock step.tick.0 ∷ past
unfolding after
after-acted g step past = refl

pub IsLegalFrom-append : (g : Group) (es : List Entry) (past : Past) (e : Entry) → IsLegalFrom g past es → e.reply ≡ reply_to g e.step (past_from g past es) → IsLegalFrom g past (es ++ e ∷ [])
unfolding past_from
IsLegalFrom-append g [] past e legal h = (h, tt)
IsLegalFrom-append g (x ∷ es) past e legal h = (legal.0, IsLegalFrom-append g es (after g x.step past) e legal.1 h)

-- ---- how long a past is, and how far a count goes

pub length-past_from : (g : Group) (es : List Entry) (past : Past) → length (past_from g past es) ≡ length past + 2 * length es
unfolding past_from after
length-past_from g [] past = omega arith
length-past_from g (e ∷ es) past = let h = length-past_from g es (after g e.step past) in omega (arith, h)

pub number_of-le : (test : Event → Bool) (past : Past) → number_of test past ≤ length past
number_of-le test [] = omega arith
number_of-le test (e ∷ past) = by_case (test e) (number_of-le test past)
  where
    by_case : (b : Bool) → number_of test past ≤ length past → (if b then number_of test past + 1 else number_of test past) ≤ length (e ∷ past)
    by_case true h = omega arith
    by_case false h = omega arith

pub past_act-task : (g : Group) (q : ℕ) (act : Act) (past : Past) → (past_act g q act past).task ≡ runs q past
unfolding past_act
past_act-task g q act past = refl

pub past_act-tick : (g : Group) (q : ℕ) (past : Past) → past_act g q acts.Tick past ≡ record { cpu = q; act = acts.Tick; task = runs q past; reply = replies.Done; ended = None }
unfolding past_act ended ended_by answer
past_act-tick g q past = refl

-- an End that is answered Done ends the job of the task that runs
pub past_act-end : (g : Group) (q t : ℕ) (past : Past) → runs q past ≡ Some t → answer g q (acts.Do ops.End) past ≡ replies.Done → (past_act g q (acts.Do ops.End) past).ended ≡ Some t
unfolding past_act ended ended_by
past_act-end g q t past runs_it done_is = rw done_is runs_it

pub IsLegal-append : (g : Group) (es : List Entry) (e : Entry) → IsLegal g es → e.reply ≡ reply_to g e.step (past_of g es) → IsLegal g (es ++ e ∷ [])
unfolding past_of
IsLegal-append g es e legal h = IsLegalFrom-append g es [] e legal h

pub reply_to-tick : (g : Group) (q : CpuNo) (tick : Tick) (past : Past) → reply_to g (record { cpu = q; tick = tick; act = acts.Tick }) past ≡ replies.Done
unfolding reply_to answer
reply_to-tick g q tick past = refl

pub reply_to-lem : (g : Group) (step : Step) (past : Past) → reply_to g step past ≡ answer g step.cpu.0 step.act (Clock step.tick.0 ∷ past)
unfolding reply_to
reply_to-lem g step past = refl

pub runs-acted : (q : ℕ) (d : PastAct) (past : Past) → runs q (Acted d ∷ past) ≡ (if d.cpu == q then runs_after d (runs q past) else runs q past)
unfolding runs
runs-acted q d past = refl

pub past_act-cpu : (g : Group) (q : ℕ) (act : Act) (past : Past) → (past_act g q act past).cpu ≡ q
unfolding past_act
past_act-cpu g q act past = refl

pub past_act-reply : (g : Group) (q : ℕ) (act : Act) (past : Past) → (past_act g q act past).reply ≡ answer g q act past
unfolding past_act
past_act-reply g q act past = refl
