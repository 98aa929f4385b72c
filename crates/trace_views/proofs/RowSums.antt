-- The lines of a task's jobs count all its units, preemptions, moves and requests.
use Rattle.std.proofs.Common.{◌≡◌, ◌∙◌, ℕ, suc, ◌+◌, Bool, true, false, List, ◌&&◌, refl, sym, ap, arith, eqb-true}
use Rattle.std.specs.Prelude.{None, if◌then◌else◌, sum_by}
use Rattle.rt_task.specs.declared.Act.{Act}
use Rattle.rt_rules.specs.declared.history.Reply.{Reply}
use Rattle.rt_rules.specs.declared.history.Reply.TheVariants as replies
use Rattle.rt_rules.specs.Numbers.{numbers_from, is}
use Rattle.rt_rules.specs.SemState.{SemAct, Asks}
use Rattle.rt_rules.proofs.BoolLaws.{both}
use Rattle.rt_rules.proofs.MemberLaws.{is-some}
use Rattle.rt_model.specs.Answers.{answer}
use Rattle.rt_model.specs.Blocking.{asks}
use Rattle.rt_model.specs.Group.{Group}
use Rattle.rt_model.specs.Jobs.{done}
use Rattle.rt_model.specs.Outcomes.{past_act}
use Rattle.rt_model.specs.Past.{Acted, Past, PastAct, accepted, did, is_work, operation, sem_act}
use Rattle.rt_model.specs.Reachable.{IsReachable}
use Rattle.rt_model.specs.Releases.{exists, ready}
use Rattle.rt_model.specs.Runs.{runs}
use Rattle.rt_model.specs.Tops.{eligible}
use Rattle.rt_model.proofs.AnswerLaws.{answer-runs_link, to_run}
use Rattle.rt_model.proofs.Steps.{past_act-task, past_act-reply}
use Rattle.rt_laws.proofs.links.LinkedTasks.{IsLinked, linked-eligible}
use Rattle.rt_laws.proofs.Moves.{clock_moves, cpu_acts}
use Rattle.rt_laws.proofs.semaphores.Requests as requests
use Rattle.rt_laws.proofs.semaphores.Requests.{IsAsk}
use Rattle.rt_laws.proofs.Rules.{MeetsRules}
use Rattle.rt_laws.proofs.jobs.Running.{IsRunning, running}
use Rattle.rt_laws.proofs.ValidSets.{rules_of}
use Rattle.trace_views.specs.JobMoves.{Test, count_moves, in_job}
use Rattle.trace_views.specs.JobTimes.{works}
use Rattle.trace_views.specs.JobCounts.{asks_now, moves_now, preempts, queues_now, taken_up, units, preemptions, moves, requests_made, queued}
use Rattle.trace_views.specs.JobRows.{JobRow, job_row, listed, rows_of}
use Rattle.trace_views.specs.TableLaws.{RowsCountAll}
use Rattle.trace_views.specs.TaskRows.{task_row}
use Rattle.trace_views.proofs.JobSums.{PassesThere, jobs_have_all, none_of_missing}
use Rattle.trace_views.proofs.Sums.{sum-last, sum-map}

-- ---- each of these moves is one of a job that is there

-- what a processor runs is there
there-runs : (g : Group) → MeetsRules g → (q t : ℕ) (act : Act) (past : Past) → IsReachable g past → is t (past_act g q act past).task ≡ true → exists g t past ≡ true
there-runs g rules q t act past made h =
    let task_is : is t (runs q past) ≡ true = rw (past_act-task g q act past) at h in
    let r : IsRunning g q t past = running g rules made q t (is-some t (runs q past) task_is) in
    r.exists_now

pub did-task : (t : ℕ) (d : PastAct) → is_work (did t (Acted d)) ≡ true → is t d.task ≡ true
did-task t d h = by_case (is t d.task) h
  where
    by_case : (b : Bool) → is_work (if b && accepted d.reply then operation d.act else None) ≡ true → b ≡ true
    by_case true k = refl
    by_case false k = k

works-there : (g : Group) → MeetsRules g → (t : ℕ) → PassesThere g t (works t)
works-there g rules t past e made (clock_moves tick) h = cc
works-there g rules t past e made (cpu_acts q a) h = there-runs g rules q t a past made (did-task t (past_act g q a past) h)

preempts-there : (g : Group) → MeetsRules g → (t : ℕ) → PassesThere g t (preempts t)
preempts-there g rules t past e made (clock_moves tick) h = cc
preempts-there g rules t past e made (cpu_acts q a) h = there-runs g rules q t a past made (both _ _ h).0

-- what an interrupt takes up is linked, and so is there
pub taken-run : (r : Reply) → taken_up r ≡ to_run r
taken-run (replies.Runs t) = refl
taken-run _ = refl

eligible-there : (g : Group) (t : ℕ) (past : Past) → eligible g t past ≡ true → exists g t past ≡ true
unfolding eligible ready
eligible-there g t past h = (both _ _ (both _ _ h).0).0

moves-there : (g : Group) → MeetsRules g → (t : ℕ) → PassesThere g t (moves_now t)
moves-there g rules t past e made (clock_moves tick) h = cc
moves-there g rules t past e made (cpu_acts q a) h =
    let taken : is t (taken_up (past_act g q a past).reply) ≡ true = (both _ _ h).0 in
    let run : is t (to_run (answer g q a past)) ≡ true = rw (taken-run (past_act g q a past).reply, past_act-reply g q a past) at taken in
    let l : IsLinked g q t past = linked-eligible g made q t (answer-runs_link g q t a past run) in
    eligible-there g t past l.was_eligible

asks-is : (t : ℕ) (x : SemAct) → asks t x ≡ true → (s : ℕ) × (x ≡ Asks t s)
asks-is t (Asks u s) h = (s, ap (λ v. Asks v s) (sym (eqb-true t u h)))
asks-is t _ h = cc

asks-there : (g : Group) → MeetsRules g → (t : ℕ) → PassesThere g t (asks_now t)
asks-there g rules t past e made (clock_moves tick) h = cc
asks-there g rules t past e made (cpu_acts q a) h =
    let is_ask = asks-is t (sem_act (Acted (past_act g q a past))) h in
    let ask : IsAsk g q a past t is_ask.0 = requests.asks g q a past t is_ask.0 is_ask.1 in
    let r : IsRunning g q t past = running g rules made q t ask.runs_it in
    r.exists_now

queues-there : (g : Group) → MeetsRules g → (t : ℕ) → PassesThere g t (queues_now t)
queues-there g rules t past e made move h = asks-there g rules t past e made move (both _ _ h).0

-- ---- so the lines count all

-- the jobs that are listed have all the moves
pub listed_have_all : (g : Group) → MeetsRules g → (t : ℕ) (test : Test) → PassesThere g t test → {past : Past} → IsReachable g past
    → sum_by (λ k. count_moves (in_job t k test) past) (numbers_from 1 (listed g t past)) ≡ count_moves test past
unfolding listed
listed_have_all g rules t test there {past} made = by_case (exists g t past) refl
  where
    each : ℕ → ℕ
    each k = count_moves (in_job t k test) past

    all : sum_by each (numbers_from 1 (done t past + 1)) ≡ count_moves test past
    all = jobs_have_all test t (done t past + 1) past (omega arith)

    by_case : (b : Bool) → exists g t past ≡ b → sum_by each (numbers_from 1 (if b then done t past + 1 else done t past)) ≡ count_moves test past
    by_case true e = all
    by_case false e =
        let number : 1 + done t past ≡ done t past + 1 = omega arith in
        let size : done t past + 1 ≡ suc (done t past) = omega arith in
        let none : each (1 + done t past) ≡ 0 = ap each number ∙ none_of_missing g rules t test there made e in
        let parts : sum_by each (numbers_from 1 (done t past + 1)) ≡ sum_by each (numbers_from 1 (done t past)) + each (1 + done t past) = ap (λ m. sum_by each (numbers_from 1 m)) size ∙ sum-last each 1 (done t past) in
        omega (arith, parts, none, all)

pub rows_count_all : RowsCountAll
unfolding task_row rows_of job_row units preemptions moves requests_made queued
rows_count_all g past valid made t =
    let rules : MeetsRules g = rules_of g valid in
    let ks : List ℕ = numbers_from 1 (listed g t past) in
    record {
      all_units = sum-map (λ (r : JobRow). r.units) (job_row g t past) ks ∙ listed_have_all g rules t (works t) (works-there g rules t) made;
      all_preemptions = sum-map (λ (r : JobRow). r.preemptions) (job_row g t past) ks ∙ listed_have_all g rules t (preempts t) (preempts-there g rules t) made;
      all_moves = sum-map (λ (r : JobRow). r.moves) (job_row g t past) ks ∙ listed_have_all g rules t (moves_now t) (moves-there g rules t) made;
      all_requests = sum-map (λ (r : JobRow). r.requests) (job_row g t past) ks ∙ listed_have_all g rules t (asks_now t) (asks-there g rules t) made;
      all_queued = sum-map (λ (r : JobRow). r.queued) (job_row g t past) ks ∙ listed_have_all g rules t (queues_now t) (queues-there g rules t) made;
    }
