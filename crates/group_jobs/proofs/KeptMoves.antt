-- What is kept after a move is of the past with that move.
use Rattle.std.proofs.Common.{◌≡◌, ◌≢◌, ℕ, zero, suc, ◌+◌, ◌-◌, ◌<◌, ◌≤◌, max, Bool, true, false, [], ◌∷◌, length, map}
use Rattle.std.proofs.Common.{replicate, get_or, set, eqb-true, refl, sym, ap, ◌∙◌, subst, arith, length-set, get_or-set_same}
use Rattle.std.proofs.Common.{get_or-set_other}
use Rattle.std.specs.Prelude.{Option, None, Some, if◌then◌else◌, ◌==◌, is_some}
use Rattle.rt_task.specs.Validity.{IsValid}
use Rattle.rt_task.specs.declared.Act.{Act}
use Rattle.rt_task.specs.declared.Act.TheVariants as acts
use Rattle.rt_task.specs.declared.Kind.{Kind}
use Rattle.rt_task.specs.declared.Kind.TheVariants.{Periodic, Sporadic}
use Rattle.rt_task.specs.declared.Op.{Op}
use Rattle.rt_task.specs.declared.Task.{Task}
use Rattle.rt_base.specs.declared.TaskNo.{TaskNo}
use Rattle.rt_rules.specs.declared.history.Reply.TheVariants as replies
use Rattle.rt_rules.specs.Numbers.{has, numbers_from}
use Rattle.rt_rules.specs.Placing.{tasks_in}
use Rattle.rt_rules.proofs.BoolLaws.{both, clash}
use Rattle.rt_rules.proofs.MemberLaws.{equal_self, has-filter}
use Rattle.rt_rules.proofs.NumberLaws.{has-numbers_from, numbers_from-below}
use Rattle.rt_model.specs.Answers.{answer, arrival_answer, may_arrive, newest, do_answer, last_work}
use Rattle.rt_model.specs.Group.{Group, task, tasks, in_group, home, group_processors}
use Rattle.rt_model.specs.Histories.{after, reply_to}
use Rattle.rt_model.specs.Jobs.{done, this_job, used, position_in_body}
use Rattle.rt_model.specs.Reachable.{IsReachable, clocked}
use Rattle.rt_model.specs.NonPreemptive.{non_preemptive}
use Rattle.rt_model.specs.Sleep.{wakes}
use Rattle.rt_model.specs.Outcomes.{past_act}
use Rattle.rt_model.specs.Past.{Clock, Past, now, accepted}
use Rattle.rt_model.specs.Releases.{arrivals}
use Rattle.rt_model.specs.Runs.{runs}
use Rattle.rt_laws.proofs.jobs.Running.{running}
use Rattle.rt_laws.proofs.ValidSets.{rules_of}
use Rattle.rt_changes.specs.Touched.{touched_by}
use Rattle.group_jobs.specs.Facts.{JobFacts, CpuFacts, no_job, idle_cpu, job_facts, cpu_facts}
use Rattle.group_jobs.specs.FactMoves.{with_act, IsOperated}
use Rattle.group_jobs.specs.Kept.{Kept, IsKept, job_of, cpu_of, with_clock, with_job, with_cpu, after_act, IsOfGroup}
use Rattle.group_jobs.specs.Kept.{HoldsNone, HasRoom, KeptAtOpening, KeptAfterClock, KeptAfterAct, KeptIsThere, KeptAfterStep}
use Rattle.group_jobs.specs.Kept.{WordsOfKept}
use Rattle.group_jobs.specs.Moves.{is_end, after_op, job_arrived, cpu_after}
use Rattle.group_jobs.specs.Words.{AreRead}
use Rattle.group_jobs.proofs.CpuSteps.{cpu_is_counted, refused_stays, clock_stays}
use Rattle.group_jobs.proofs.JobSteps.{operation_is_counted, arrival_is_counted, others_count_nothing, other_jobs_stay}
use Rattle.group_jobs.proofs.ReadWords.{words_are_read}

-- ---- places

pub task-range : (g : Group) (t : ℕ) → has t (tasks g) ≡ true → (1 ≤ t) × (t ≤ length g.setup.tasks)
unfolding tasks
task-range g t h =
    let there = both (has t (numbers_from 1 (length g.setup.tasks))) _
    (rw (has-filter (λ u. in_group g (home g u)) t (numbers_from 1 (length g.setup.tasks))) at h) in
    let low : 1 ≤ t = has-numbers_from t 1 (length g.setup.tasks) there.0 in
    let high : t < 1 + length g.setup.tasks = numbers_from-below t 1 (length g.setup.tasks) there.0 in
    (low, omega arith)

-- the facts of one task are new, and those of all others stay
jobs-set : (g : Group) (past past' : Past) (k : Kept) (t : ℕ) (job : JobFacts) → IsKept g past k → has t (tasks g) ≡ true
    → job ≡ job_facts t past' → ((u : ℕ) → u == t ≡ false → job_facts u past' ≡ job_facts u past)
    → (u : ℕ) → has u (tasks g) ≡ true → job_of (with_job t job k) u ≡ job_facts u past'
jobs-set g past past' k t job kept there new others u h = by_case (u == t) refl
  where
    here : u ≡ t → get_or (set k.jobs (t - 1) job) (u - 1) no_job ≡ job_facts u past'
    here e =
        let r = task-range g t there in
        let n : length k.jobs ≡ length g.setup.tasks = kept.jobs_length in
        let inside : t - 1 < length k.jobs = omega (arith, r.0, r.1, n) in
        rw e (get_or-set_same k.jobs (t - 1) job no_job inside ∙ new)

    there_too : u ≢ t → u == t ≡ false → get_or (set k.jobs (t - 1) job) (u - 1) no_job ≡ job_facts u past'
    there_too ne e =
        let r = task-range g t there in
        let s = task-range g u h in
        let apart : u - 1 ≢ t - 1 = omega (arith, r.0, s.0, ne) in
        get_or-set_other k.jobs (t - 1) (u - 1) job no_job apart ∙ kept.jobs_are u h ∙ sym (others u e)

    by_case : (b : Bool) → u == t ≡ b → get_or (set k.jobs (t - 1) job) (u - 1) no_job ≡ job_facts u past'
    by_case true e = here (eqb-true u t e)
    by_case false e = there_too (λ s. let m : t == t ≡ false = rw s at e in clash _ (equal_self t) m) e

cpus-set : (g : Group) (past past' : Past) (k : Kept) (q : ℕ) (cpu : CpuFacts) → IsKept g past k → has q (group_processors g) ≡ true
    → cpu ≡ cpu_facts q past' → ((p : ℕ) → q == p ≡ false → cpu_facts p past' ≡ cpu_facts p past)
    → (p : ℕ) → has p (group_processors g) ≡ true → cpu_of (with_cpu q cpu k) p ≡ cpu_facts p past'
cpus-set g past past' k q cpu kept there new others p h = by_case (q == p) refl
  where
    by_case : (b : Bool) → q == p ≡ b → get_or (set k.cpus q cpu) p idle_cpu ≡ cpu_facts p past'
    by_case true e =
        let same : q ≡ p = eqb-true q p e in
        let inside : q < length k.cpus = kept.cpus_room q there in
        rw (← same) (get_or-set_same k.cpus q cpu idle_cpu inside ∙ new)
    by_case false e =
        let apart : p ≢ q = λ s. let m : q == q ≡ false = rw s at e in clash _ (equal_self q) m in
        get_or-set_other k.cpus q p cpu idle_cpu apart ∙ kept.cpus_are p h ∙ sym (others p e)

cpus-room : (g : Group) (k : Kept) (q : ℕ) (cpu : CpuFacts) → HasRoom g (length k.cpus) → HasRoom g (length (set k.cpus q cpu))
cpus-room g k q cpu room p h = let n : length (set k.cpus q cpu) ≡ length k.cpus = length-set _ _ _ in let m : p < length k.cpus =
    room p h in omega (arith, n, m)

-- ---- the opening and the clock

no-job : (t : ℕ) → job_facts t [] ≡ no_job
unfolding done this_job used position_in_body wakes non_preemptive arrivals
no-job t = refl

idle : (q : ℕ) → cpu_facts q [] ≡ idle_cpu
unfolding runs last_work
idle q = refl

pub replicated : {A : Type 0} (n i : ℕ) (x : A) → get_or (replicate n x) i x ≡ x
replicated zero i x = refl
replicated (suc n) zero x = refl
replicated (suc n) (suc i) x = replicated n i x

pub length-replicated : {A : Type 0} (n : ℕ) (x : A) → length (replicate n x) ≡ n
length-replicated zero x = refl
length-replicated (suc n) x = ap suc (length-replicated n x)

pub kept_at_opening : KeptAtOpening
kept_at_opening g m room = record {
  clock_is = refl;
  jobs_length = length-replicated (length g.setup.tasks) no_job;
  jobs_are = λ t h. replicated (length g.setup.tasks) (t - 1) no_job ∙ sym (no-job t);
  cpus_room = λ q h. let n : length (replicate m idle_cpu) ≡ m = length-replicated m idle_cpu in let l : q < m = room q h in
      omega (arith, n, l);
  cpus_are = λ q h. replicated m q idle_cpu ∙ sym (idle q);
}

pub kept_after_clock : KeptAfterClock
kept_after_clock g past valid made tick k kept =
    let s = clock_stays g past valid made tick in
    record {
      clock_is = ap (λ n. max n tick) kept.clock_is;
      jobs_length = kept.jobs_length;
      jobs_are = λ t h. kept.jobs_are t h ∙ sym (s.jobs t);
      cpus_room = kept.cpus_room;
      cpus_are = λ q h. kept.cpus_are q h ∙ sym (s.cpus q);
    }

-- ---- an act

-- where no processor's facts change
pub stay-kept : (g : Group) (past past' : Past) (k : Kept) → IsKept g past k → now past' ≡ now past
    → ((t : ℕ) → job_facts t past' ≡ job_facts t past) → ((p : ℕ) → cpu_facts p past' ≡ cpu_facts p past) → IsKept g past' k
stay-kept g past past' k kept clock jobs cpus = record {
  clock_is = kept.clock_is ∙ sym clock;
  jobs_length = kept.jobs_length;
  jobs_are = λ t h. kept.jobs_are t h ∙ sym (jobs t);
  cpus_room = kept.cpus_room;
  cpus_are = λ q h. kept.cpus_are q h ∙ sym (cpus q);
}

job-kept : (g : Group) (past past' : Past) (k : Kept) (t : ℕ) (job : JobFacts) → IsKept g past k → now past' ≡ now past
    → has t (tasks g) ≡ true → job ≡ job_facts t past' → ((u : ℕ) → u == t ≡ false → job_facts u past' ≡ job_facts u past)
    → ((p : ℕ) → cpu_facts p past' ≡ cpu_facts p past) → IsKept g past' (with_job t job k)
job-kept g past past' k t job kept clock there new others cpus = record {
  clock_is = kept.clock_is ∙ sym clock;
  jobs_length = length-set _ _ _ ∙ kept.jobs_length;
  jobs_are = jobs-set g past past' k t job kept there new others;
  cpus_room = kept.cpus_room;
  cpus_are = λ q h. kept.cpus_are q h ∙ sym (cpus q);
}

pub cpu-kept : (g : Group) (past past' : Past) (k : Kept) (q : ℕ) (cpu : CpuFacts) → IsKept g past k → now past' ≡ now past
    → has q (group_processors g) ≡ true → cpu ≡ cpu_facts q past' → ((p : ℕ) → q == p ≡ false → cpu_facts p past' ≡ cpu_facts p past)
    → ((t : ℕ) → job_facts t past' ≡ job_facts t past) → IsKept g past' (with_cpu q cpu k)
cpu-kept g past past' k q cpu kept clock there new others jobs = record {
  clock_is = kept.clock_is ∙ sym clock;
  jobs_length = kept.jobs_length;
  jobs_are = λ t h. kept.jobs_are t h ∙ sym (jobs t);
  cpus_room = cpus-room g k q cpu kept.cpus_room;
  cpus_are = cpus-set g past past' k q cpu kept there new others;
}

pub both-kept : (g : Group) (past past' : Past) (k : Kept) (t : ℕ) (job : JobFacts) (q : ℕ) (cpu : CpuFacts) → IsKept g past k
    → now past' ≡ now past → has t (tasks g) ≡ true → job ≡ job_facts t past'
    → ((u : ℕ) → u == t ≡ false → job_facts u past' ≡ job_facts u past)
    → has q (group_processors g) ≡ true → cpu ≡ cpu_facts q past' → ((p : ℕ) → q == p ≡ false → cpu_facts p past' ≡ cpu_facts p past)
    → IsKept g past' (with_cpu q cpu (with_job t job k))
both-kept g past past' k t job q cpu kept clock there new others inside new_cpu other_cpus = record {
  clock_is = kept.clock_is ∙ sym clock;
  jobs_length = length-set _ _ _ ∙ kept.jobs_length;
  jobs_are = jobs-set g past past' k t job kept there new others;
  cpus_room = cpus-room g k q cpu kept.cpus_room;
  cpus_are = cpus-set g past past' k q cpu kept inside new_cpu other_cpus;
}

-- all processors stay where the one that acts does
cpus-stay : (g : Group) (q : ℕ) (act : Act) (past : Past) → cpu_facts q (with_act g q act past) ≡ cpu_facts q past → (p : ℕ)
    → cpu_facts p (with_act g q act past) ≡ cpu_facts p past
cpus-stay g q act past same p = by_case (q == p) refl
  where
    by_case : (b : Bool) → q == p ≡ b → cpu_facts p (with_act g q act past) ≡ cpu_facts p past
    by_case true e = let s : q ≡ p = eqb-true q p e in subst (λ n. cpu_facts n (with_act g q act past) ≡ cpu_facts n past) s same
    by_case false e = (cpu_is_counted g q act past).others p e

answer-tick : (g : Group) (q : ℕ) (past : Past) → answer g q acts.Tick past ≡ replies.Done
unfolding answer
answer-tick g q past = refl

answer-arrival : (g : Group) (q : ℕ) (t : TaskNo) (past : Past) → accepted (answer g q (acts.Arrive t) past) ≡ true
    → answer g q (acts.Arrive t) past ≡ replies.Done
unfolding answer arrival_answer
answer-arrival g q t past a = by_kind (task g t.0).kind a
  where
    by_test : (b : Bool) → accepted (if b then replies.Done else replies.TooEarly) ≡ true
        → (if b then replies.Done else replies.TooEarly) ≡ replies.Done
    by_test true h = refl
    by_test false h = cc

    by_kind : (x : Kind) → accepted (arrival_answer g x t.0 past) ≡ true → arrival_answer g x t.0 past ≡ replies.Done
    by_kind Periodic h = cc
    by_kind Sporadic h = by_test (may_arrive g t.0 (newest (arrivals t.0 past)) past) h

answer-idle : (g : Group) (q : ℕ) (op : Op) (past : Past) → runs q past ≡ None → accepted (answer g q (acts.Do op) past) ≡ false
unfolding answer do_answer
answer-idle g q op past r = rw r

some-if : (b : Bool) (t : ℕ) → is_some (if b then Some t else None) ≡ b
some-if true t = refl
some-if false t = refl

-- no act but an arrival of that task, and no operation but its own, touches a task
touched-op : (g : Group) (q t u : ℕ) (op : Op) (past : Past) → runs q past ≡ Some t → u == t ≡ false
    → has u (touched_by g q (acts.Do op) past) ≡ false
touched-op g q t u op past r e = by_case (accepted (answer g q (acts.Do op) past))
  where
    by_case : (b : Bool) → has u (if b then tasks_in (runs q past ∷ None ∷ []) else []) ≡ false
    by_case true = rw (r, e)
    by_case false = refl

same-op : (task : Task) (op : Op) (c c' : ℕ) (b : Bool) (j j' : JobFacts) → c ≡ c' → j ≡ j'
    → after_op task c op b j ≡ after_op task c' op b j'
same-op task op c c' b j j' p r = ap (λ x. after_op task x op b j) p ∙ ap (λ x. after_op task c' op b x) r

same-end : (task : Task) (op : Op) (c c' : ℕ) (b : Bool) (j j' : JobFacts) → c ≡ c' → j ≡ j'
    → is_end task c op b j ≡ is_end task c' op b j'
same-end task op c c' b j j' p r = ap (λ x. is_end task x op b j) p ∙ ap (λ x. is_end task c' op b x) r

module _ (g : Group) (past : Past) (valid : IsValid g.setup) (made : IsReachable g past) (q : ℕ) (holds_none : Bool) (k : Kept)
    (kept : IsKept g past k) where
  tick-kept : IsKept g (with_act g q acts.Tick past) k
  tick-kept =
      let counted = (others_count_nothing g q past).0 in
      let own = (cpu_is_counted g q acts.Tick past).own in
      stay-kept g past (with_act g q acts.Tick past) k kept refl counted.facts_stay
      (cpus-stay g q acts.Tick past (own ∙ rw (answer-tick g q past, counted.ends_none)))

  irq-kept : has q (group_processors g) ≡ true
      → IsKept g (with_act g q acts.Irq past) (after_act g.setup.tasks q acts.Irq None (answer g q acts.Irq past) holds_none k)
  irq-kept inside =
      let counted = (others_count_nothing g q past).1 in
      let after = cpu_is_counted g q acts.Irq past in
      let c : CpuFacts = cpu_after k.clock acts.Irq (answer g q acts.Irq past) false (cpu_of k q) in
      let own : cpu_facts q (with_act g q acts.Irq past)
      ≡ cpu_after (now past) acts.Irq (answer g q acts.Irq past) false (cpu_facts q past) = after.own ∙ rw counted.ends_none in
      let new : c ≡ cpu_facts q (with_act g q acts.Irq past) = rw (kept.clock_is, kept.cpus_are q inside) (sym own) in
      cpu-kept g past (with_act g q acts.Irq past) k q c kept refl inside new after.others counted.facts_stay

  arrival-kept : (t : TaskNo) → has t.0 (tasks g) ≡ true → accepted (answer g q (acts.Arrive t) past) ≡ true
      → IsKept g (with_act g q (acts.Arrive t) past)
      (after_act g.setup.tasks q (acts.Arrive t) None (answer g q (acts.Arrive t) past) holds_none k)
  arrival-kept t there a =
      let counted = arrival_is_counted g q t past a in
      let own = (cpu_is_counted g q (acts.Arrive t) past).own in
      let done_is : answer g q (acts.Arrive t) past ≡ replies.Done = answer-arrival g q t past a in
      let job : JobFacts = job_arrived k.clock (job_of k t.0) in
      let new : job ≡ job_facts t.0 (with_act g q (acts.Arrive t) past) =
      rw (kept.clock_is, kept.jobs_are t.0 there) (sym counted.facts_are) in
      job-kept g past (with_act g q (acts.Arrive t) past) k t.0 job kept refl there new counted.others
      (cpus-stay g q (acts.Arrive t) past (own ∙ rw (done_is, counted.ends_none)))

  module _ (t : ℕ) (op : Op) (r : runs q past ≡ Some t) (none : HoldsNone g q (acts.Do op) past holds_none)
      (a : accepted (answer g q (acts.Do op) past) ≡ true) where
    abbrev past' : Past
    past' = with_act g q (acts.Do op) past

    there : has t (tasks g) ≡ true
    there = (running g (rules_of g valid) made q t r).member

    -- what is kept of the task after it, and whether it ends the job
    abbrev job : JobFacts
    job = after_op (task g t) k.clock op holds_none (job_of k t)

    abbrev ends : Bool
    ends = is_end (task g t) k.clock op holds_none (job_of k t)

    counted : IsOperated g q t op past holds_none
    counted = subst (λ b. IsOperated g q t op past b) (none t r) (operation_is_counted g q t op past r a)

    new-job : job ≡ job_facts t past'
    new-job = same-op (task g t) op k.clock (now past) holds_none (job_of k t) (job_facts t past) kept.clock_is (kept.jobs_are t there)
        ∙ sym counted.facts_are

    ends-now : is_some (past_act g q (acts.Do op) past).ended ≡ ends
    ends-now = ap is_some counted.ended_is ∙ some-if _ t
        ∙ sym (same-end (task g t) op k.clock (now past) holds_none (job_of k t) (job_facts t past) kept.clock_is (kept.jobs_are t there))

    new-cpu : has q (group_processors g) ≡ true
        → cpu_after k.clock (acts.Do op) (answer g q (acts.Do op) past) ends (cpu_of k q) ≡ cpu_facts q past'
    new-cpu inside = rw (← ends-now, kept.clock_is, kept.cpus_are q inside) (sym (cpu_is_counted g q (acts.Do op) past).own)

    op-kept : has q (group_processors g) ≡ true
        → IsKept g past' (after_act g.setup.tasks q (acts.Do op) (Some t) (answer g q (acts.Do op) past) holds_none k)
    unfolding task
    op-kept inside =
        let others : (u : ℕ) → u == t ≡ false → job_facts u past' ≡ job_facts u past =
        λ u e. other_jobs_stay g past valid made q u (acts.Do op) (touched-op g q t u op past r e) in
        both-kept g past past' k t job q
        (cpu_after k.clock (acts.Do op) (answer g q (acts.Do op) past) ends (cpu_of k q)) kept refl there new-job others inside
        (new-cpu inside) (cpu_is_counted g q (acts.Do op) past).others

  accepted-kept : (act : Act) (o : Option ℕ) → runs q past ≡ o → IsOfGroup g q act → HoldsNone g q act past holds_none
      → accepted (answer g q act past) ≡ true
      → IsKept g (with_act g q act past) (after_act g.setup.tasks q act o (answer g q act past) holds_none k)
  accepted-kept acts.Tick o r of_group none a = tick-kept
  accepted-kept acts.Irq o r of_group none a = irq-kept of_group.inside
  accepted-kept (acts.Arrive t) o r of_group none a = arrival-kept t (of_group.arrives_in t.0 refl) a
  accepted-kept (acts.Do op) None r of_group none a = absurd (clash _ a (answer-idle g q op past r))
  accepted-kept (acts.Do op) (Some t) r of_group none a = op-kept t op r none a of_group.inside

  act-kept : (act : Act) → IsOfGroup g q act → HoldsNone g q act past holds_none → (b : Bool) → accepted (answer g q act past) ≡ b
      → IsKept g (with_act g q act past)
      (if b then after_act g.setup.tasks q act (cpu_of k q).runs (answer g q act past) holds_none k else k)
  act-kept act of_group none true a =
      let same : runs q past ≡ (cpu_of k q).runs = ap (λ (c : CpuFacts). c.runs) (sym (kept.cpus_are q of_group.inside)) in
      accepted-kept act (cpu_of k q).runs same of_group none a
  act-kept act of_group none false a = let s = refused_stays g past valid made q act a in
      stay-kept g past (with_act g q act past) k kept refl s.jobs s.cpus

pub kept_after_act : KeptAfterAct
kept_after_act g past valid made q act holds_none k of_group none kept =
    act-kept g past valid made q holds_none k kept act of_group none (accepted (answer g q act past)) refl

pub kept_after_step : KeptAfterStep
unfolding after reply_to
kept_after_step g past valid made step holds_none k of_group none kept =
    kept_after_act g (Clock step.tick.0 ∷ past) valid (clocked step.tick.0 made) step.cpu.0 step.act holds_none
    (with_clock step.tick.0 k) of_group none (kept_after_clock g past valid made step.tick.0 k kept)

-- ---- that there is such

listed : {A : Type 0} (f : ℕ → A) (d : A) (a n i : ℕ) → i < n → get_or (map f (numbers_from a n)) i d ≡ f (a + i)
listed f d a zero i h = absurd (omega arith)
listed f d a (suc n) zero h = let e : a ≡ a + zero = omega arith in ap f e
listed f d a (suc n) (suc i) h = let e : suc a + i ≡ a + suc i = omega arith in listed f d (suc a) n i (omega arith) ∙ ap f e

length-listed : {A : Type 0} (f : ℕ → A) (a n : ℕ) → length (map f (numbers_from a n)) ≡ n
length-listed f a zero = refl
length-listed f a (suc n) = ap suc (length-listed f (suc a) n)

pub kept_is_there : KeptIsThere
kept_is_there g m past room = (
  k,
  record {
    clock_is = refl;
    jobs_length = length-listed (λ t. job_facts t past) 1 (length g.setup.tasks);
    jobs_are = λ t h. let r = task-range g t h in let e : 1 + (t - 1) ≡ t = omega (arith, r.0) in
        listed (λ t. job_facts t past) no_job 1 (length g.setup.tasks) (t - 1) (omega (arith, r.0, r.1)) ∙ ap (λ n. job_facts n past) e;
    cpus_room = λ q h. let n : length (map (λ q. cpu_facts q past) (numbers_from 0 m)) ≡ m = length-listed (λ q. cpu_facts q past) 0 m in
        let l : q < m = room q h in omega (arith, n, l);
    cpus_are = λ q h. let e : 0 + q ≡ q = omega arith in listed (λ q. cpu_facts q past) idle_cpu 0 m q (room q h)
        ∙ ap (λ n. cpu_facts n past) e;
  },
)
  where
    k : Kept
    k = record {
      clock = now past;
      jobs = map (λ t. job_facts t past) (numbers_from 1 (length g.setup.tasks));
      cpus =
          map (λ q. cpu_facts q past) (numbers_from 0 m);
    }

-- ---- what is read off it

pub words_of_kept : WordsOfKept
words_of_kept g past k kept t there =
    subst (λ n. AreRead g t past n (job_of k t)) (sym kept.clock_is)
    (subst (λ j. AreRead g t past (now past) j) (sym (kept.jobs_are t there)) (words_are_read g t past))
