-- What one act makes of what is kept of a job, job by job.
use Rattle.std.proofs.Common.{◌≡◌, ◌∙◌, ℕ, ◌+◌, ◌<◌, Bool, true, false, List, [], ◌∷◌, ◌++◌, ◌&&◌, length, refl, sym, ap, arith}
use Rattle.std.specs.Prelude.{not, Option, None, Some, if◌then◌else◌, ◌==◌}
use Rattle.rt_task.specs.declared.Act.{Act}
use Rattle.rt_task.specs.declared.Act.TheVariants as acts
use Rattle.rt_task.specs.declared.Op.TheVariants as ops
use Rattle.rt_rules.specs.Numbers.{first, is}
use Rattle.rt_rules.proofs.BoolLaws.{and_false, and_true}
use Rattle.rt_rules.specs.SemState.{Neither}
use Rattle.rt_rules.proofs.MemberLaws.{equal_self, turned}
use Rattle.rt_model.specs.Blocking.{asks, requests}
use Rattle.rt_model.specs.Jobs.{done}
use Rattle.rt_model.specs.Past.{Acted, Clock, Event, Past, PastAct, accepted, is_work, now, operation, sem_act_of}
use Rattle.trace_views.specs.JobCounts.{asks_now, changes, is_elsewhere, is_queued_reply, migrations, moves, moves_now, preemptions, preempts, queued, unit_cpus, units}
use Rattle.trace_views.specs.JobMoves.{clock_if, count_moves, first_clock, last_clock, or_else}
use Rattle.trace_views.specs.JobTimes.{end, last_unit, start, works}
use Rattle.trace_views.proofs.JobSums.{done-grows}
use Rattle.trace_views.proofs.Sums.{below_differs}
use Rattle.job_facts.specs.Deeds as deeds
use Rattle.job_facts.specs.Deeds.{asked, ended, is_lock, locks, moved, preempted, worked}
use Rattle.job_facts.specs.RequestPositions.{request_positions}
use Rattle.job_facts.specs.Tallies.{Tally, nothing, tally_at}

-- a job after an act, where it is its task's current one or not
abbrev pub tally_after : Bool → ℕ → PastAct → Past → Tally → Tally
tally_after b t d past x =
    ended (b && is t d.ended) (now past) (
    asked (b && asks_now t (Acted d) past) (is_queued_reply d.reply) (length (requests past)) (
    preempted (b && preempts t (Acted d) past) (
    worked (b && works t (Acted d) past) (now past) d.cpu (
    moved (b && moves_now t (Acted d) past) x))))

start-after : (b : Bool) (o : Option ℕ) (past : Past) → or_else o (clock_if b past) ≡ (if b then or_else o (Some (now past)) else o)
start-after true o past = refl
start-after false None past = refl
start-after false (Some n) past = refl

newest-after : (b : Bool) (o : Option ℕ) (past : Past) → or_else (clock_if b past) o ≡ (if b then Some (now past) else o)
newest-after true o past = refl
newest-after false o past = refl

position-after : (b : Bool) (q : ℕ) (ps : List ℕ) → first (if b then (q ∷ ps) else ps) ≡ (if b then Some q else first ps)
position-after true q ps = refl
position-after false q ps = refl

one_more : (b : Bool) (n : ℕ) → (if b then 0 else 1) + n ≡ (if not b then n + 1 else n)
one_more true n = omega arith
one_more false n = omega arith

changes-after : (b : Bool) (q : ℕ) (ps : List ℕ) → changes (if b then (q ∷ ps) else ps) ≡ (if b && is_elsewhere q (first ps) then changes ps + 1 else changes ps)
changes-after false q ps = refl
changes-after true q [] = refl
changes-after true q (p ∷ ps) = rw (turned q p) (one_more (p == q) (changes (p ∷ ps)))

queued-after : (b a c : Bool) (n : ℕ) → (if b && (a && c) then n + 1 else n) ≡ (if (b && a) && c then n + 1 else n)
queued-after true a c n = refl
queued-after false a c n = refl

pub tally-step : (t k : ℕ) (d : PastAct) (past : Past) → tally_at t k (Acted d ∷ past) ≡ tally_after (done t past + 1 == k) t d past (tally_at t k past)
unfolding tally_at start last_unit end unit_cpus units preemptions migrations moves queued request_positions count_moves first_clock last_clock
tally-step t k d past =
    let b : Bool = done t past + 1 == k in λ i. record {
      start = start-after (b && works t (Acted d) past) (start t k past) past i;
      unit = newest-after (b && works t (Acted d) past) (last_unit t k past) past i;
      end = newest-after (b && is t d.ended) (end t k past) past i;
      last_cpu = position-after (b && works t (Acted d) past) d.cpu (unit_cpus t k past) i;
      units = units t k (Acted d ∷ past);
      preemptions = preemptions t k (Acted d ∷ past);
      migrations = changes-after (b && works t (Acted d) past) d.cpu (unit_cpus t k past) i;
      moves = moves t k (Acted d ∷ past);
      requests = request_positions t k (Acted d ∷ past);
      queued = queued-after b (asks_now t (Acted d) past) (is_queued_reply d.reply) (queued t k past) i;
    }

-- a move of the clock is none of a job
pub tally-clock : (t k tick : ℕ) (past : Past) → tally_at t k (Clock tick ∷ past) ≡ tally_at t k past
unfolding tally_at start last_unit end unit_cpus units preemptions migrations moves queued request_positions count_moves first_clock last_clock
tally-clock t k tick past =
    let b : Bool = done t past + 1 == k in λ i. record {
      start = no-start b (start t k past) past i;
      unit = no-newest b (last_unit t k past) past i;
      end = no-newest b (end t k past) past i;
      last_cpu = first (unit_cpus t k past);
      units = skipped b (units t k past + 1) (units t k past) i;
      preemptions = skipped b (preemptions t k past + 1) (preemptions t k past) i;
      migrations = migrations t k past;
      moves = skipped b (moves t k past + 1) (moves t k past) i;
      requests = skipped b (request_positions t k past ++ length (requests past) ∷ []) (request_positions t k past) i;
      queued = skipped b (queued t k past + 1) (queued t k past) i;
    }
  where
    skipped : {A : Type 0} (b : Bool) (x y : A) → (if b && false then x else y) ≡ y
    skipped true x y = refl
    skipped false x y = refl

    no-start : (b : Bool) (o : Option ℕ) (past : Past) → or_else o (clock_if (b && false) past) ≡ o
    no-start true None past = refl
    no-start true (Some n) past = refl
    no-start false None past = refl
    no-start false (Some n) past = refl

    no-newest : (b : Bool) (o : Option ℕ) (past : Past) → or_else (clock_if (b && false) past) o ≡ o
    no-newest true o past = refl
    no-newest false o past = refl

-- of a job that is not its task's current one nothing changes
pub tally-others : (t k : ℕ) (e : Event) (past : Past) → done t past + 1 == k ≡ false → tally_at t k (e ∷ past) ≡ tally_at t k past
tally-others t k (Clock tick) past h = tally-clock t k tick past
tally-others t k (Acted d) past h = tally-step t k d past ∙ ap (λ b. tally_after b t d past (tally_at t k past)) h

-- and of its current one what the act does
pub tally-current : (t : ℕ) (d : PastAct) (past : Past) → tally_at t (done t past + 1) (Acted d ∷ past) ≡ tally_after true t d past (tally_at t (done t past + 1) past)
tally-current t d past =
    tally-step t (done t past + 1) d past ∙ ap (λ b. tally_after b t d past (tally_at t (done t past + 1) past)) (equal_self (done t past + 1))

pub tally-opening : (t k : ℕ) → tally_at t k [] ≡ nothing
unfolding tally_at start last_unit end unit_cpus units preemptions migrations moves queued request_positions count_moves first_clock last_clock
tally-opening t k = refl

-- a job that has not begun
pub tally-none : (t k : ℕ) (past : Past) → done t past + 1 < k → tally_at t k past ≡ nothing
unfolding tally_at start last_unit end unit_cpus units preemptions migrations moves queued request_positions count_moves first_clock last_clock
tally-none t k [] h = refl
tally-none t k (e ∷ past) h =
    let low : done t past + 1 < k = omega (arith, h, done-grows t e past) in
    tally-others t k e past (below_differs (done t past + 1) k low) ∙ tally-none t k past low

-- ---- the deeds, as an act shows them

pub works-shown : (t : ℕ) (d : PastAct) (past : Past) → works t (Acted d) past ≡ is t d.task && deeds.works d.act d.reply
works-shown t d past = by_case (is t d.task) (accepted d.reply)
  where
    by_case : (a b : Bool) → is_work (if a && b then operation d.act else None) ≡ a && (b && is_work (operation d.act))
    by_case true true = refl
    by_case true false = refl
    by_case false b = refl

pub asks-shown : (t : ℕ) (d : PastAct) (past : Past) → asks_now t (Acted d) past ≡ is t d.task && locks d.act d.reply
asks-shown t d past = by_reply (accepted d.reply)
  where
    by_task : (a : Act) (o : Option ℕ) → asks t (sem_act_of a o) ≡ is t o && is_lock a
    by_task (acts.Do (ops.Lock s)) (Some u) = sym (and_true (t == u))
    by_task (acts.Do (ops.Unlock s)) (Some u) = sym (and_false (t == u))
    by_task (acts.Do (ops.Lock s)) None = refl
    by_task (acts.Do (ops.Unlock s)) None = refl
    by_task (acts.Do ops.Work) (Some u) = sym (and_false (t == u))
    by_task (acts.Do ops.Work) None = refl
    by_task (acts.Do (ops.Sleep n)) (Some u) = sym (and_false (t == u))
    by_task (acts.Do (ops.Sleep n)) None = refl
    by_task (acts.Do ops.NpOn) (Some u) = sym (and_false (t == u))
    by_task (acts.Do ops.NpOn) None = refl
    by_task (acts.Do ops.NpOff) (Some u) = sym (and_false (t == u))
    by_task (acts.Do ops.NpOff) None = refl
    by_task (acts.Do ops.End) (Some u) = sym (and_false (t == u))
    by_task (acts.Do ops.End) None = refl
    by_task acts.Tick (Some u) = sym (and_false (t == u))
    by_task acts.Tick None = refl
    by_task acts.Irq (Some u) = sym (and_false (t == u))
    by_task acts.Irq None = refl
    by_task (acts.Arrive v) (Some u) = sym (and_false (t == u))
    by_task (acts.Arrive v) None = refl

    by_reply : (b : Bool) → asks t (if b then sem_act_of d.act d.task else Neither) ≡ is t d.task && (b && is_lock d.act)
    by_reply true = by_task d.act d.task
    by_reply false = sym (and_false (is t d.task))
