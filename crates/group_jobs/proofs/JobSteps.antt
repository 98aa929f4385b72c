-- The facts of a task after one more event.
use Rattle.std.proofs.Common.{◌≡◌, ℕ, ◌+◌, max, Bool, true, false, ◌&&◌, [], ◌∷◌, ◌++◌, refl, ap, ◌∙◌, arith}
use Rattle.std.specs.Prelude.{None, Some, if◌then◌else◌, ◌==◌, filter}
use Rattle.rt_base.specs.declared.TaskNo.{TaskNo}
use Rattle.rt_task.specs.declared.Act.{Act}
use Rattle.rt_task.specs.declared.Act.TheVariants as acts
use Rattle.rt_task.specs.declared.Op.{Op}
use Rattle.rt_task.specs.declared.Op.TheVariants as ops
use Rattle.rt_task.specs.declared.Protocol.{Protocol}
use Rattle.rt_task.specs.declared.Protocol.TheVariants.{Fmlp, Omlp, Mpcp, Pcp, Srp}
use Rattle.rt_rules.specs.Fmlp.{fmlp_after}
use Rattle.rt_rules.specs.Mpcp.{mpcp_after}
use Rattle.rt_rules.specs.Numbers.{is, is_empty}
use Rattle.rt_rules.specs.Omlp.{omlp_after, omlp_sem_state}
use Rattle.rt_rules.specs.Pcp.{pcp_after, pcp_sem_state}
use Rattle.rt_rules.specs.SemState.{SemState, in_line}
use Rattle.rt_rules.proofs.MemberLaws.{equal_self, length-one_more}
use Rattle.rt_model.specs.Answers.{answer}
use Rattle.rt_model.specs.BaseKeys.{above}
use Rattle.rt_model.specs.Ceilings.{above_ceiling, at_cluster, pcp}
use Rattle.rt_model.specs.Group.{Group, cpus, protocol, sems, task}
use Rattle.rt_model.specs.Holders.{sem_state, sem_state_by, holder, holds}
use Rattle.rt_model.specs.Jobs.{done, this_job, position_in_body}
use Rattle.rt_model.specs.NonPreemptive.{non_preemptive}
use Rattle.rt_model.specs.Outcomes.{attempt, past_act, ended, ended_by, is_spent}
use Rattle.rt_model.specs.Past.{PastAct, Event, Acted, Past, now, did, operation, is_any, ends_job, accepted, number_of, sem_act}
use Rattle.rt_model.specs.Releases.{arrivals}
use Rattle.rt_model.specs.Runs.{runs}
use Rattle.rt_rules.specs.Srp.{srp_after, srp_sem_state}
use Rattle.rt_model.specs.StackPolicy.{srp, srp_at}
use Rattle.rt_model.specs.Semaphores.{at_sem, cluster_of, fmlp, mpcp, omlp}
use Rattle.rt_model.specs.Sleep.{wakes}
use Rattle.rt_model.proofs.Steps.{done-step, used-step}
use Rattle.rt_changes.specs.Touched.{SameJob}
use Rattle.rt_changes.proofs.rankings.TouchedTasks.{acts_touch_few, IsNone, job-none}
use Rattle.group_jobs.specs.Facts.{job_facts}
use Rattle.group_jobs.specs.Words.{is_used_up}
use Rattle.group_jobs.specs.Moves.{op_done, job_ended, job_arrived, is_end}
use Rattle.group_jobs.specs.FactMoves.{with_act, OperationIsCounted, ArrivalIsCounted, OthersCountNothing, OtherJobsStay}
use Rattle.group_jobs.proofs.FactLists.{drop-more, drop-append, newest-append}
use Rattle.group_jobs.proofs.ReadWords.{spent-read}

pub position-step : (t : ℕ) (e : Event) (past : Past)
    → position_in_body t (e ∷ past)
    ≡ (if ends_job t e then 0 else (if is_any (did t e) then position_in_body t past + 1 else position_in_body t past))
unfolding position_in_body this_job
position-step t e past = by_case (ends_job t e)
  where
    by_case : (b : Bool) → number_of (λ x. is_any (did t x)) (if b then [] else (e ∷ this_job t past))
        ≡ (if b then 0 else (if is_any (did t e) then position_in_body t past + 1 else position_in_body t past))
    by_case true = refl
    by_case false = refl

-- ---- what counts for nothing

pub facts-same : (g : Group) (t : ℕ) (past past' : Past) → SameJob g t past past' → job_facts t past' ≡ job_facts t past
facts-same g t past past' s = rw (s.done_same, s.used_same, s.position_same, s.wakes_same, s.np_same, s.arrivals_same)

-- ---- an operation, and an end

pub facts-op : (t : ℕ) (e : Event) (op : Op) (past : Past) → did t e ≡ Some op → ends_job t e ≡ false
    → arrivals t (e ∷ past) ≡ arrivals t past → job_facts t (e ∷ past) ≡ op_done (now past) op (job_facts t past)
unfolding wakes non_preemptive
facts-op t e op past d stays a = rw (done-step t e past, used-step t e past, position-step t e past, a, stays, d)

pub facts-ended : (t : ℕ) (e : Event) (past : Past) → ends_job t e ≡ true → arrivals t (e ∷ past) ≡ arrivals t past
    → job_facts t (e ∷ past) ≡ job_ended (job_facts t past)
unfolding wakes non_preemptive
facts-ended t e past ends a =
    rw (done-step t e past, used-step t e past, position-step t e past, a, ends, drop-more (done t past) (arrivals t past))

arrivals-op : (t : ℕ) (d : PastAct) (op : Op) (past : Past) → d.act ≡ acts.Do op → arrivals t (Acted d ∷ past) ≡ arrivals t past
unfolding arrivals
arrivals-op t d op past h = rw h

pub did-op : (g : Group) (q t : ℕ) (op : Op) (past : Past) → runs q past ≡ Some t → accepted (answer g q (acts.Do op) past) ≡ true
    → did t (Acted (past_act g q (acts.Do op) past)) ≡ Some op
unfolding past_act
did-op g q t op past r a = rw (r, equal_self t, a)

attempt-facts : (g : Group) (q t : ℕ) (op : Op) (past : Past) → runs q past ≡ Some t → accepted (answer g q (acts.Do op) past) ≡ true
    → job_facts t (Acted (attempt g q (acts.Do op) past) ∷ past) ≡ op_done (now past) op (job_facts t past)
unfolding attempt
attempt-facts g q t op past r a =
    let d : PastAct = record { cpu = q; act = acts.Do op; task = runs q past; reply = answer g q (acts.Do op) past; ended = None } in
    facts-op t (Acted d) op past (rw (r, equal_self t, a)) refl (arrivals-op t d op past refl)

-- what a task holds depends on the request of an event alone
sem_state-request : (g : Group) (s : ℕ) (e f : Event) (past : Past) → sem_act e ≡ sem_act f
    → sem_state g s (e ∷ past) ≡ sem_state g s (f ∷ past)
unfolding sem_state sem_state_by fmlp omlp mpcp pcp srp
sem_state-request g s e f past h = by_protocol (protocol g s)
  where
    by_protocol : (p : Protocol) → sem_state_by g p s (e ∷ past) ≡ sem_state_by g p s (f ∷ past)
    by_protocol Fmlp = ap (λ x. in_line (fmlp_after (at_sem s x) (fmlp g s past))) h
    by_protocol Omlp = ap (λ x. omlp_sem_state (omlp_after (cpus g (cluster_of g s)) (above g past) (at_sem s x) (omlp g s past))) h
    by_protocol Mpcp = ap (λ x. mpcp_after (above g past) (at_sem s x) (mpcp g s past)) h
    by_protocol Srp = ap (λ x. srp_sem_state s (srp_after (srp_at g (cluster_of g s) x) (srp g (cluster_of g s) past))) h
    by_protocol Pcp = ap (λ x. pcp_sem_state s
        (pcp_after (above g []) (above_ceiling g) (at_cluster g (cluster_of g s) x) (pcp g (cluster_of g s) past))) h

holder-request : (g : Group) (s : ℕ) (e f : Event) (past : Past) → sem_act e ≡ sem_act f → holder g s (e ∷ past) ≡ holder g s (f ∷ past)
unfolding holder
holder-request g s e f past h = ap (λ (x : SemState). x.holder) (sem_state-request g s e f past h)

holds-request : (g : Group) (t : ℕ) (e f : Event) (past : Past) → sem_act e ≡ sem_act f → holds g t (e ∷ past) ≡ holds g t (f ∷ past)
unfolding holds
holds-request g t e f past h = λ i. filter (λ s. is t (holder-request g s e f past h i)) (sems g)

same-request : (g : Group) (q : ℕ) (act : Act) (past : Past)
    → sem_act (Acted (attempt g q act past)) ≡ sem_act (Acted (past_act g q act past))
unfolding past_act attempt
same-request g q act past = refl

holds-attempt : (g : Group) (q t : ℕ) (act : Act) (past : Past)
    → holds g t (Acted (attempt g q act past) ∷ past) ≡ holds g t (with_act g q act past)
holds-attempt g q t act past =
    holds-request g t (Acted (attempt g q act past)) (Acted (past_act g q act past)) past (same-request g q act past)

spent-attempt : (g : Group) (q t : ℕ) (op : Op) (past : Past) → runs q past ≡ Some t → accepted (answer g q (acts.Do op) past) ≡ true
    → is_spent g t (Acted (attempt g q (acts.Do op) past) ∷ past)
    ≡ is_used_up (task g t) (is_empty (holds g t (with_act g q (acts.Do op) past))) (op_done (now past) op (job_facts t past))
spent-attempt g q t op past r a =
    spent-read g t (Acted (attempt g q (acts.Do op) past) ∷ past)
    ∙ ap (λ h. is_used_up (task g t) (is_empty h) (job_facts t (Acted (attempt g q (acts.Do op) past) ∷ past)))
    (holds-attempt g q t (acts.Do op) past)
    ∙ ap (λ j. is_used_up (task g t) (is_empty (holds g t (with_act g q (acts.Do op) past))) j) (attempt-facts g q t op past r a)

-- whether the operation ends the job
abbrev ends_now : Group → ℕ → ℕ → Op → Past → Bool
ends_now g q t op past = is_end (task g t) (now past) op (is_empty (holds g t (with_act g q (acts.Do op) past))) (job_facts t past)

ended-opened : (g : Group) (q t : ℕ) (op : Op) (past : Past) → runs q past ≡ Some t → accepted (answer g q (acts.Do op) past) ≡ true
    → (past_act g q (acts.Do op) past).ended ≡ ended_by g (acts.Do op) (Some t) (attempt g q (acts.Do op) past) past
unfolding past_act ended
ended-opened g q t op past r a = rw (a, r)

ended_by-op : (g : Group) (t : ℕ) (free : Bool) (op : Op) (d : PastAct) (past : Past)
    → is_spent g t (Acted d ∷ past) ≡ is_used_up (task g t) free (op_done (now past) op (job_facts t past))
    → ended_by g (acts.Do op) (Some t) d past ≡ (if is_end (task g t) (now past) op free (job_facts t past) then Some t else None)
unfolding ended_by
ended_by-op g t free ops.End d past h = refl
ended_by-op g t free ops.Work d past h = rw h
ended_by-op g t free (ops.Lock n) d past h = rw h
ended_by-op g t free (ops.Unlock n) d past h = rw h
ended_by-op g t free (ops.Sleep n) d past h = rw h
ended_by-op g t free ops.NpOn d past h = rw h
ended_by-op g t free ops.NpOff d past h = rw h

pub ended-op : (g : Group) (q t : ℕ) (op : Op) (past : Past) → runs q past ≡ Some t → accepted (answer g q (acts.Do op) past) ≡ true
    → (past_act g q (acts.Do op) past).ended ≡ (if ends_now g q t op past then Some t else None)
ended-op g q t op past r a = ended-opened g q t op past r a
    ∙ ended_by-op g t (is_empty (holds g t (with_act g q (acts.Do op) past))) op (attempt g q (acts.Do op) past) past
    (spent-attempt g q t op past r a)

arrivals-act : (g : Group) (q t : ℕ) (op : Op) (past : Past) → arrivals t (with_act g q (acts.Do op) past) ≡ arrivals t past
unfolding past_act arrivals
arrivals-act g q t op past = refl

pub operation_is_counted : OperationIsCounted
operation_is_counted g q t op past r a =
    record { facts_are = by_case (ends_now g q t op past) refl; ended_is = ended-op g q t op past r a }
  where
    ends : (b : Bool) → ends_now g q t op past ≡ b → ends_job t (Acted (past_act g q (acts.Do op) past)) ≡ b
    ends true h = rw (ended-op g q t op past r a, h) (equal_self t)
    ends false h = rw (ended-op g q t op past r a, h)

    by_case : (b : Bool) → ends_now g q t op past ≡ b
        → job_facts t (with_act g q (acts.Do op) past)
        ≡ (if b then job_ended (job_facts t past) else op_done (now past) op (job_facts t past))
    by_case true h = facts-ended t (Acted (past_act g q (acts.Do op) past)) past (ends true h) (arrivals-act g q t op past)
    by_case false h = facts-op t (Acted (past_act g q (acts.Do op) past)) op past (did-op g q t op past r a) (ends false h)
        (arrivals-act g q t op past)

-- ---- an arrival

arrivals-more : (t : TaskNo) (d : PastAct) (past : Past) → d.act ≡ acts.Arrive t → accepted d.reply ≡ true
    → arrivals t.0 (Acted d ∷ past) ≡ arrivals t.0 past ++ now past ∷ []
unfolding arrivals
arrivals-more t d past h a = rw (h, equal_self t.0, a)

zero-max : (n : ℕ) → max 0 n ≡ n
zero-max n = omega arith

facts-arrived : (t : TaskNo) (d : PastAct) (past : Past) → d.act ≡ acts.Arrive t → accepted d.reply ≡ true → d.ended ≡ None
    → job_facts t.0 (Acted d ∷ past) ≡ job_arrived (now past) (job_facts t.0 past)
unfolding wakes non_preemptive
facts-arrived t d past h a none =
    let nothing : did t.0 (Acted d) ≡ None = by_case (is t.0 d.task && accepted d.reply) in
    let goes_on : ends_job t.0 (Acted d) ≡ false = rw none in
    let more : arrivals t.0 (Acted d ∷ past) ≡ arrivals t.0 past ++ now past ∷ [] = arrivals-more t d past h a in
    rw (
      done-step t.0 (Acted d) past,
      used-step t.0 (Acted d) past,
      position-step t.0 (Acted d) past,
      more,
      goes_on,
      nothing,
      newest-append,
      length-one_more,
      drop-append,
      zero-max,
    )
  where
    by_case : (b : Bool) → (if b then operation d.act else None) ≡ None
    by_case true = rw h
    by_case false = refl

arrival-ends : (g : Group) (q : ℕ) (t : TaskNo) (past : Past) → accepted (answer g q (acts.Arrive t) past) ≡ true
    → (past_act g q (acts.Arrive t) past).ended ≡ None
unfolding past_act ended ended_by
arrival-ends g q t past a = rw a

arrival-counts : (g : Group) (q : ℕ) (t : TaskNo) (past : Past) → accepted (answer g q (acts.Arrive t) past) ≡ true
    → job_facts t.0 (with_act g q (acts.Arrive t) past) ≡ job_arrived (now past) (job_facts t.0 past)
unfolding past_act
arrival-counts g q t past a = facts-arrived t (past_act g q (acts.Arrive t) past) past refl a (arrival-ends g q t past a)

-- ---- what counts for no task

pub facts-none : (g : Group) (t : ℕ) (e : Event) (past : Past) → IsNone t e past → job_facts t (e ∷ past) ≡ job_facts t past
facts-none g t e past n = facts-same g t past (e ∷ past) (job-none g t e past n)

both-same : {A : Type 0} (b : Bool) (x : A) → (if b then x else x) ≡ x
both-same true x = refl
both-same false x = refl

-- ---- an arrival, of other tasks

arrival-none : (g : Group) (q : ℕ) (t : TaskNo) (past : Past) (u : ℕ) → accepted (answer g q (acts.Arrive t) past) ≡ true
    → u == t.0 ≡ false → IsNone u (Acted (past_act g q (acts.Arrive t) past)) past
unfolding past_act arrivals
arrival-none g q t past u a e =
    record {
      did_none = both-same (is u (runs q past) && accepted (answer g q (acts.Arrive t) past)) None;
      goes_on =
          rw (arrival-ends g q t past a);
      arrivals_same = rw e;
    }

pub arrival_is_counted : ArrivalIsCounted
arrival_is_counted g q t past a = record {
  facts_are = arrival-counts g q t past a;
  ends_none = arrival-ends g q t past a;
  others = λ u e. facts-none g u (Acted (past_act g q (acts.Arrive t) past)) past (arrival-none g q t past u a e);
}

-- ---- a Tick and an interrupt

tick-ends : (g : Group) (q : ℕ) (past : Past) → (past_act g q acts.Tick past).ended ≡ None
unfolding past_act ended ended_by
tick-ends g q past = both-same (accepted (answer g q acts.Tick past)) None

irq-ends : (g : Group) (q : ℕ) (past : Past) → (past_act g q acts.Irq past).ended ≡ None
unfolding past_act ended ended_by
irq-ends g q past = both-same (accepted (answer g q acts.Irq past)) None

tick-none : (g : Group) (q t : ℕ) (past : Past) → IsNone t (Acted (past_act g q acts.Tick past)) past
unfolding past_act arrivals
tick-none g q t past = record {
  did_none = both-same (is t (runs q past) && accepted (answer g q acts.Tick past)) None;
  goes_on = rw tick-ends;
  arrivals_same = refl;
}

irq-none : (g : Group) (q t : ℕ) (past : Past) → IsNone t (Acted (past_act g q acts.Irq past)) past
unfolding past_act arrivals
irq-none g q t past = record {
  did_none = both-same (is t (runs q past) && accepted (answer g q acts.Irq past)) None;
  goes_on = rw irq-ends;
  arrivals_same = refl;
}

pub others_count_nothing : OthersCountNothing
others_count_nothing g q past = (
  record {
    facts_stay = λ t. facts-none g t (Acted (past_act g q acts.Tick past)) past (tick-none g q t past);
    ends_none =
        tick-ends g q past;
  },
  record {
    facts_stay = λ t. facts-none g t (Acted (past_act g q acts.Irq past)) past (irq-none g q t past);
    ends_none =
        irq-ends g q past;
  },
)

pub other_jobs_stay : OtherJobsStay
other_jobs_stay g past valid made q t act h =
    facts-same g t past (with_act g q act past) (acts_touch_few g past valid made q act t h).same_job
