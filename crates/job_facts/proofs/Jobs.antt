-- What is kept of the jobs of a task, move by move.
use Rattle.std.proofs.Common.{◌≡◌, ◌∙◌, ℕ, suc, zero, ◌+◌, ◌<◌, ◌≤◌, Bool, true, false, [], ◌∷◌, ◌++◌, ◌&&◌, length, map, refl, ap, arith}
use Rattle.std.specs.Prelude.{None, Some, if◌then◌else◌, ◌==◌}
use Rattle.rt_task.specs.declared.Act.{Act}
use Rattle.rt_task.specs.declared.Act.TheVariants as acts
use Rattle.rt_rules.specs.Numbers.{is, numbers_from}
use Rattle.rt_rules.proofs.BoolLaws.{and_false, and_true}
use Rattle.rt_model.specs.Blocking.{requests}
use Rattle.rt_model.specs.Group.{Group}
use Rattle.rt_model.specs.Jobs.{done}
use Rattle.rt_model.specs.Outcomes.{past_act}
use Rattle.rt_model.specs.Past.{Acted, Clock, Event, Past, PastAct, accepted, now}
use Rattle.rt_model.specs.Reachable.{IsReachable}
use Rattle.rt_model.specs.Releases.{arrivals, arrives}
use Rattle.rt_model.proofs.Steps.{done-step, past_act-cpu}
use Rattle.trace_views.specs.JobCounts.{asks_now, has_worked, is_queued_reply, is_switch_reply, last_cpu, moves_now, preempts, takes_up}
use Rattle.trace_views.proofs.Sums.{above_differs, below_differs}
use Rattle.job_facts.specs.Deeds.{arrived_by, arrived_task, asked, closed, ended, jobs_arrived, jobs_fed, jobs_run, jobs_taken, locks, moved, preempted, ran, worked, works}
use Rattle.job_facts.specs.JobLaws.{JobsAreKept}
use Rattle.job_facts.specs.Kept.{scene_at}
use Rattle.job_facts.specs.Workers.{worker}
use Rattle.job_facts.specs.Tallies.{Jobs, Tally, jobs_at, tally_at}
use Rattle.job_facts.proofs.Steps.{asks-shown, tally-clock, tally-current, tally-none, tally-opening, tally-others, works-shown}
use Rattle.job_facts.proofs.Workers.{worked-worker}

pub map-same : {X : Type 0} (f h : ℕ → X) (i n : ℕ) → ((k : ℕ) → i ≤ k → k < i + n → f k ≡ h k) → map f (numbers_from i n) ≡ map h (numbers_from i n)
map-same f h i zero same = refl
map-same f h i (suc n) same =
    rw (same i (omega arith) (omega arith), map-same f h (suc i) n (λ k low high. same k (omega (arith, low)) (omega (arith, high)))) refl

pub map-last : {X : Type 0} (f : ℕ → X) (i n : ℕ) → map f (numbers_from i (n + 1)) ≡ map f (numbers_from i n) ++ f (i + n) ∷ []
map-last f i zero = let at : i ≡ i + 0 = omega arith in ap (λ j. f j ∷ []) at
map-last f i (suc n) =
    let size : suc n + 1 ≡ suc (n + 1) = omega arith in
    let at : suc i + n ≡ i + suc n = omega arith in
    ap (λ m. map f (numbers_from i m)) size ∙ ap (λ xs. f i ∷ xs) (map-last f (suc i) n) ∙ ap (λ j. f i ∷ (map f (numbers_from (suc i) n) ++ f j ∷ [])) at

-- the jobs that have ended stay as they are
ended-keeps : (t : ℕ) (e : Event) (past : Past) → map (λ k. tally_at t k (e ∷ past)) (numbers_from 1 (done t past)) ≡ map (λ k. tally_at t k past) (numbers_from 1 (done t past))
ended-keeps t e past =
    map-same (λ k. tally_at t k (e ∷ past)) (λ k. tally_at t k past) 1 (done t past) (λ k low high. tally-others t k e past (above_differs (done t past + 1) k (omega (arith, high))))

pub jobs-clock : (t tick : ℕ) (past : Past) → jobs_at t (Clock tick ∷ past) ≡ jobs_at t past
unfolding jobs_at done last_cpu arrivals
jobs-clock t tick past = λ i. record {
  ended = ended-keeps t (Clock tick) past i;
  current = tally-clock t (done t past + 1) tick past i;
  last_cpu = last_cpu t past;
  arrivals = arrivals t past;
}

-- the current job after an act, by three of its deeds
abbrev shown_by : Bool → Bool → Bool → ℕ → PastAct → Past → Tally → Tally
shown_by w a p t d past x =
    ended (is t d.ended) (now past) (
    asked a (is_queued_reply d.reply) (length (requests past)) (
    preempted p (
    worked w (now past) d.cpu (
    moved (moves_now t (Acted d) past) x))))

module _ (g : Group) (q : ℕ) (act : Act) (t : ℕ) (past : Past) (made : IsReachable g past) where
  abbrev d : PastAct
  d = past_act g q act past

  abbrev before : Tally
  before = tally_at t (done t past + 1) past

  abbrev deeds_shown : Tally
  deeds_shown = ran (is t d.task) (is t (worker q past)) (now past) (length (requests past)) d (moved (moves_now t (Acted d) past) before)

  preempts-shown : preempts t (Acted d) past ≡ is t d.task && (is_switch_reply d.reply && is t (worker q past))
  preempts-shown =
      ap (λ r. is t d.task && (is_switch_reply d.reply && r)) (ap (λ p. has_worked t p past) (past_act-cpu g q act past) ∙ worked-worker g t q made)

  current-shown : tally_at t (done t past + 1) (Acted d ∷ past) ≡ ended (is t d.ended) (now past) deeds_shown
  current-shown =
      tally-current t d past
      ∙ ap (λ w. shown_by w (asks_now t (Acted d) past) (preempts t (Acted d) past) t d past before) (works-shown t d past)
      ∙ ap (λ a. shown_by (is t d.task && works d.act d.reply) a (preempts t (Acted d) past) t d past before) (asks-shown t d past)
      ∙ ap (λ p. shown_by (is t d.task && works d.act d.reply) (is t d.task && locks d.act d.reply) p t d past before) preempts-shown

  arrives-shown : arrives t d.act && accepted d.reply ≡ is t (arrived_task d.act d.reply)
  arrives-shown = by_act d.act (accepted d.reply)
    where
      by_act : (a : Act) (b : Bool) → arrives t a && b ≡ is t (if b then arrived_by a else None)
      by_act (acts.Arrive u) true = and_true (t == u.0)
      by_act (acts.Arrive u) false = and_false (t == u.0)
      by_act acts.Tick true = refl
      by_act acts.Tick false = refl
      by_act acts.Irq true = refl
      by_act acts.Irq false = refl
      by_act (acts.Do op) true = refl
      by_act (acts.Do op) false = refl

  arrivals-shown : arrivals t (Acted d ∷ past) ≡ (if is t (arrived_task d.act d.reply) then arrivals t past ++ now past ∷ [] else arrivals t past)
  unfolding arrivals
  arrivals-shown = ap (λ b. if b then arrivals t past ++ now past ∷ [] else arrivals t past) arrives-shown

  position-shown : last_cpu t (Acted d ∷ past) ≡ (if takes_up t d.reply then Some d.cpu else last_cpu t past)
  unfolding last_cpu
  position-shown = refl

  -- but for the end of a job
  abbrev still : Jobs
  still = jobs_arrived (now past) t d (jobs_run (scene_at q past) t d (jobs_taken t d (jobs_at t past)))

  abbrev tally_now : ℕ → Tally
  tally_now k = tally_at t k (Acted d ∷ past)

  none-ends : is t d.ended ≡ false → jobs_at t (Acted d ∷ past) ≡ still
  unfolding jobs_at
  none-ends h =
      let number : done t (Acted d ∷ past) ≡ done t past = done-step t (Acted d) past ∙ rw h refl in
      let same_ended = ap (λ n. map tally_now (numbers_from 1 n)) number ∙ ended-keeps t (Acted d) past in
      let same_current = ap (λ n. tally_now (n + 1)) number ∙ current-shown ∙ ap (λ b. ended b (now past) deeds_shown) h in
      λ i. record { ended = same_ended i; current = same_current i; last_cpu = position-shown i; arrivals = arrivals-shown i }

  one-ends : is t d.ended ≡ true → jobs_at t (Acted d ∷ past) ≡ closed (now past) still
  unfolding jobs_at
  one-ends h =
      let number : done t (Acted d ∷ past) ≡ done t past + 1 = done-step t (Acted d) past ∙ rw h refl in
      let last : 1 + done t past ≡ done t past + 1 = omega arith in
      let ended_now : tally_now (1 + done t past) ≡ ended true (now past) deeds_shown = ap tally_now last ∙ current-shown ∙ ap (λ b. ended b (now past) deeds_shown) h in
      let all_ended = ap (λ n. map tally_now (numbers_from 1 n)) number ∙ map-last tally_now 1 (done t past) ∙ ap (λ xs. xs ++ tally_now (1 + done t past) ∷ []) (ended-keeps t (Acted d) past)
      ∙ ap (λ x. map (λ k. tally_at t k past) (numbers_from 1 (done t past)) ++ x ∷ []) ended_now in
      let low : done t past + 1 < done t past + 1 + 1 = omega arith in
      let new = ap (λ n. tally_now (n + 1)) number ∙ tally-others t (done t past + 1 + 1) (Acted d) past (below_differs (done t past + 1) (done t past + 1 + 1) low) ∙ tally-none t (done t past + 1 + 1) past low in
      λ i. record { ended = all_ended i; current = new i; last_cpu = position-shown i; arrivals = arrivals-shown i }

  jobs-act : jobs_at t (Acted d ∷ past) ≡ jobs_fed (scene_at q past) t d (jobs_at t past)
  jobs-act = by_case (is t d.ended) refl
    where
      by_case : (b : Bool) → is t d.ended ≡ b → jobs_at t (Acted d ∷ past) ≡ (if b then closed (now past) still else still)
      by_case true h = one-ends h
      by_case false h = none-ends h

pub jobs_are_kept : JobsAreKept
unfolding jobs_at done last_cpu arrivals
jobs_are_kept = record {
  opening = λ t i. record { ended = []; current = tally-opening t 1 i; last_cpu = None; arrivals = [] };
  clocked = jobs-clock;
  acted = jobs-act;
}
