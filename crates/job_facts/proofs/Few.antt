-- No count of a job is above the number of entries.
use Rattle.std.proofs.Common.{◌≡◌, ◌∙◌, ℕ, ◌+◌, ◌≤◌, Bool, true, false, List, [], ◌∷◌, ◌++◌, ◌&&◌, length, refl, ap, arith, length-append}
use Rattle.std.specs.Prelude.{Option, None, Some, is_some, if◌then◌else◌, ◌==◌}
use Rattle.rt_task.specs.declared.Act.{Act}
use Rattle.rt_task.specs.declared.Act.TheVariants as acts
use Rattle.rt_task.specs.declared.Op.TheVariants as ops
use Rattle.std.proofs.lemmas.List.{length-map}
use Rattle.rt_rules.specs.Numbers.{is, numbers_from}
use Rattle.rt_rules.proofs.NumberLaws.{length-numbers_from}
use Rattle.rt_model.specs.Group.{Group}
use Rattle.rt_model.specs.Releases.{arrivals, exists}
use Rattle.trace_views.specs.JobRows.{listed}
use Rattle.rt_rules.specs.SemState.{Neither}
use Rattle.rt_rules.proofs.BoolLaws.{and_false}
use Rattle.rt_model.specs.Blocking.{asked_by, requests}
use Rattle.rt_model.specs.Jobs.{done}
use Rattle.rt_model.specs.Past.{Acted, Clock, Past, PastAct, accepted, entries_in, sem_act_of}
use Rattle.trace_views.specs.JobCounts.{asks_now, changes, migrations, moves, moves_now, preemptions, preempts, queued, queues_now, unit_cpus, units}
use Rattle.trace_views.specs.JobMoves.{Test, count_moves, in_job}
use Rattle.trace_views.specs.JobTimes.{works}
use Rattle.job_facts.specs.Deeds.{is_lock, locks}
use Rattle.job_facts.specs.JobLaws.{TalliesAreFew}
use Rattle.job_facts.specs.Kept.{IsFew}
use Rattle.job_facts.specs.RequestPositions.{request_positions}
use Rattle.job_facts.specs.Tallies.{jobs_at, tally_at}

-- a test that no move of the clock passes
abbrev PassesNoClock : Test → Type 0
PassesNoClock test = (tick : ℕ) (past : Past) → test (Clock tick) past ≡ false

count-few : (t k : ℕ) (test : Test) → PassesNoClock test → (past : Past) → count_moves (in_job t k test) past ≤ entries_in past
unfolding count_moves
count-few t k test none [] = omega arith
count-few t k test none (Clock tick ∷ past) = rw (none tick past) (by_case (done t past + 1 == k) (count-few t k test none past))
  where
    by_case : (b : Bool) → count_moves (in_job t k test) past ≤ entries_in past → (if b && false then count_moves (in_job t k test) past + 1 else count_moves (in_job t k test) past) ≤ entries_in past
    by_case true h = h
    by_case false h = h
count-few t k test none (Acted d ∷ past) = by_case (in_job t k test (Acted d) past) (count-few t k test none past)
  where
    by_case : (b : Bool) → count_moves (in_job t k test) past ≤ entries_in past → (if b then count_moves (in_job t k test) past + 1 else count_moves (in_job t k test) past) ≤ entries_in past + 1
    by_case true h = omega (arith, h)
    by_case false h = omega (arith, h)

changes-few : (ps : List ℕ) → changes ps ≤ length ps
changes-few [] = omega arith
changes-few (p ∷ []) = omega arith
changes-few (p ∷ q ∷ ps) = by_case (p == q) (changes-few (q ∷ ps))
  where
    by_case : (b : Bool) → changes (q ∷ ps) ≤ length (q ∷ ps) → (if b then 0 else 1) + changes (q ∷ ps) ≤ length (p ∷ q ∷ ps)
    by_case true h = omega (arith, h)
    by_case false h = omega (arith, h)

positions-few : (t k : ℕ) (past : Past) → length (unit_cpus t k past) ≤ entries_in past
unfolding unit_cpus
positions-few t k [] = omega arith
positions-few t k (Clock tick ∷ past) = positions-few t k past
positions-few t k (Acted d ∷ past) = by_case (in_job t k (works t) (Acted d) past) (positions-few t k past)
  where
    by_case : (b : Bool) → length (unit_cpus t k past) ≤ entries_in past → length (if b then (d.cpu ∷ unit_cpus t k past) else unit_cpus t k past) ≤ entries_in past + 1
    by_case true h = omega (arith, h)
    by_case false h = omega (arith, h)

-- a job has as many positions of requests as it made
pub request_positions-length : (t k : ℕ) (past : Past) → length (request_positions t k past) ≡ count_moves (in_job t k (asks_now t)) past
unfolding request_positions count_moves
request_positions-length t k [] = refl
request_positions-length t k (e ∷ past) = by_case (in_job t k (asks_now t) e past) (request_positions-length t k past)
  where
    by_case : (b : Bool) → length (request_positions t k past) ≡ count_moves (in_job t k (asks_now t)) past
        → length (if b then (request_positions t k past ++ length (requests past) ∷ []) else request_positions t k past) ≡ (if b then count_moves (in_job t k (asks_now t)) past + 1 else count_moves (in_job t k (asks_now t)) past)
    by_case true h = length-append (request_positions t k past) (length (requests past) ∷ []) ∙ ap (λ n. n + 1) h
    by_case false h = h

pub tallies_are_few : TalliesAreFew
unfolding tally_at units preemptions migrations moves queued
tallies_are_few t k past = record {
  units_few = count-few t k (works t) (λ tick p. refl) past;
  preemptions_few = count-few t k (preempts t) (λ tick p. refl) past;
  migrations_few = omega (arith, changes-few (unit_cpus t k past), positions-few t k past);
  moves_few = count-few t k (moves_now t) (λ tick p. refl) past;
  requests_few = omega (arith, request_positions-length t k past, count-few t k (asks_now t) (λ tick p. refl) past);
  queued_few = count-few t k (queues_now t) (λ tick p. refl) past;
}

-- nor is any of the current job
pub current-few : (t : ℕ) (past : Past) → IsFew (entries_in past) (jobs_at t past).current
unfolding jobs_at
current-few t past = tallies_are_few t (done t past + 1) past

-- the requests so far, and how an act adds to them
pub requests-by : (d : PastAct) (past : Past) → length (requests (Acted d ∷ past)) ≡ (if is_some d.task && locks d.act d.reply then length (requests past) + 1 else length (requests past))
unfolding requests
requests-by d past = by_reply (accepted d.reply)
  where
    by_task : (a : Act) (o : Option ℕ) → length (asked_by (sem_act_of a o) (entries_in past) (requests past)) ≡ (if is_some o && is_lock a then length (requests past) + 1 else length (requests past))
    by_task (acts.Do (ops.Lock s)) (Some u) = length-append (requests past) (record { no = entries_in past; task = u; sem = s.0 } ∷ [])
    by_task (acts.Do (ops.Lock s)) None = refl
    by_task (acts.Do (ops.Unlock s)) (Some u) = refl
    by_task (acts.Do (ops.Unlock s)) None = refl
    by_task (acts.Do ops.Work) (Some u) = refl
    by_task (acts.Do ops.Work) None = refl
    by_task (acts.Do (ops.Sleep n)) (Some u) = refl
    by_task (acts.Do (ops.Sleep n)) None = refl
    by_task (acts.Do ops.NpOn) (Some u) = refl
    by_task (acts.Do ops.NpOn) None = refl
    by_task (acts.Do ops.NpOff) (Some u) = refl
    by_task (acts.Do ops.NpOff) None = refl
    by_task (acts.Do ops.End) (Some u) = refl
    by_task (acts.Do ops.End) None = refl
    by_task acts.Tick (Some u) = refl
    by_task acts.Tick None = refl
    by_task acts.Irq (Some u) = refl
    by_task acts.Irq None = refl
    by_task (acts.Arrive v) (Some u) = refl
    by_task (acts.Arrive v) None = refl

    by_reply : (b : Bool) → length (asked_by (if b then sem_act_of d.act d.task else Neither) (entries_in past) (requests past)) ≡ (if is_some d.task && (b && is_lock d.act) then length (requests past) + 1 else length (requests past))
    by_reply true = by_task d.act d.task
    by_reply false = rw (and_false (is_some d.task)) refl

pub requests-few : (past : Past) → length (requests past) ≤ entries_in past
unfolding requests
requests-few [] = omega arith
requests-few (Clock tick ∷ past) = requests-few past
requests-few (Acted d ∷ past) = rw (requests-by d past) (by_case (is_some d.task && locks d.act d.reply) (requests-few past))
  where
    by_case : (b : Bool) → length (requests past) ≤ entries_in past → (if b then length (requests past) + 1 else length (requests past)) ≤ entries_in past + 1
    by_case true h = omega (arith, h)
    by_case false h = omega (arith, h)

-- nor do more jobs end than there are entries
pub done-few : (t : ℕ) (past : Past) → done t past ≤ entries_in past
unfolding done
done-few t [] = omega arith
done-few t (Clock tick ∷ past) = done-few t past
done-few t (Acted d ∷ past) = by_case (is t d.ended) (done-few t past)
  where
    by_case : (b : Bool) → done t past ≤ entries_in past → (if b then done t past + 1 else done t past) ≤ entries_in past + 1
    by_case true h = omega (arith, h)
    by_case false h = omega (arith, h)

-- the positions of a job's requests
pub positions-kept : (t k : ℕ) (past : Past) → (tally_at t k past).requests ≡ request_positions t k past
unfolding tally_at
positions-kept t k past = refl

-- what is kept of a task's arrivals, and how many of its jobs have ended
pub arrivals-kept : (t : ℕ) (past : Past) → (jobs_at t past).arrivals ≡ arrivals t past
unfolding jobs_at
arrivals-kept t past = refl

pub ended-kept : (t : ℕ) (past : Past) → length (jobs_at t past).ended ≡ done t past
unfolding jobs_at
ended-kept t past = length-map (numbers_from 1 (done t past)) (λ k. tally_at t k past) ∙ length-numbers_from 1 (done t past)

-- nor are more jobs listed than have begun
pub listed-few : (g : Group) (t : ℕ) (past : Past) → listed g t past ≤ done t past + 1
unfolding listed
listed-few g t past = by_case (exists g t past)
  where
    by_case : (b : Bool) → (if b then done t past + 1 else done t past) ≤ done t past + 1
    by_case true = omega arith
    by_case false = omega arith
