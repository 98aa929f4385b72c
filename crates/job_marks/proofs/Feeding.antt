-- The times are fed an act.
use Rattle.std.proofs.Common.{◌≡◌, ◌∙◌, ℕ, ◌<◌, Bool, true, false, List, [], ◌∷◌, ◌++◌, ◌&&◌, length, refl, sym, ap, arith}
use Rattle.std.specs.Prelude.{None, if◌then◌else◌, ◌==◌}
use Rattle.rt_task.specs.declared.Act.{Act}
use Rattle.rt_task.specs.declared.Act.TheVariants as acts
use Rattle.rt_rules.specs.Numbers.{is}
use Rattle.rt_rules.proofs.BoolLaws.{and_false, and_true}
use Rattle.rt_model.specs.Past.{Acted, Clock, Past, PastAct, accepted, now}
use Rattle.rt_model.specs.Releases.{arrivals, arrives}
use Rattle.job_facts.specs.Deeds.{arrived_by, arrived_task}
use Rattle.job_marks.specs.declared.job_times.JobTimes.{JobTimes}
use Rattle.job_marks.specs.declared.task_times.TaskTimes.{TaskTimes}
use Rattle.job_marks.specs.JobTimes.{KeepsTimes, times_in}
use Rattle.job_marks.specs.Times.{Times, arrived_if, end_clocks, ended_if, no_times, times_at}

arrives-shown : (t : ℕ) (a : Act) (b : Bool) → is t (if b then arrived_by a else None) ≡ arrives t a && b
arrives-shown t (acts.Arrive u) true = sym (and_true (t == u.0))
arrives-shown t (acts.Arrive u) false = sym (and_false (t == u.0))
arrives-shown t acts.Tick true = refl
arrives-shown t acts.Tick false = refl
arrives-shown t acts.Irq true = refl
arrives-shown t acts.Irq false = refl
arrives-shown t (acts.Do op) true = refl
arrives-shown t (acts.Do op) false = refl

-- what an act makes of the times of a task
abbrev pub fed : ℕ → ℕ → PastAct → Times → Times
fed clock t d x = ended_if (is t d.ended) clock (arrived_if (is t (arrived_task d.act d.reply)) clock x)

times-act : (t : ℕ) (d : PastAct) (past : Past) → fed (now past) t d (times_at t past) ≡ times_at t (Acted d ∷ past)
unfolding end_clocks arrivals
times-act t d past = λ i. record {
  arrivals = if arrives-shown t d.act (accepted d.reply) i then arrivals t past ++ now past ∷ [] else arrivals t past;
  ends = end_clocks t (Acted d ∷ past);
}

module _ (v v' : JobTimes) (clock : ℕ) (d : PastAct) (xs0 xs1 xs2 : List TaskTimes) (same : xs0 ≡ v.tasks.items) (long1 : length xs1 ≡ length xs0) (long2 : length xs2 ≡ length xs1)
    (arrived : (t : ℕ) → t < length xs0 → times_in xs1 t ≡ arrived_if (is t (arrived_task d.act d.reply)) clock (times_in xs0 t))
    (ended : (t : ℕ) → t < length xs1 → times_in xs2 t ≡ ended_if (is t d.ended) clock (times_in xs1 t)) where
  pub kept-after : v'.tasks.items ≡ xs2 → (past : Past) → KeepsTimes v past → clock ≡ now past → KeepsTimes v' (Acted d ∷ past)
  kept-after tasks past kept at = λ t within.
      let low2 : t < length xs2 = omega (arith, within, ap length tasks) in
      let low1 : t < length xs1 = omega (arith, low2, long2) in
      let low0 : t < length xs0 = omega (arith, low1, long1) in
      let low : t < length v.tasks.items = omega (arith, low0, ap length same) in
      ap (λ xs. times_in xs t) tasks ∙ ended t low1 ∙ ap (ended_if (is t d.ended) clock) (arrived t low0)
      ∙ ap (fed clock t d) (ap (λ xs. times_in xs t) same ∙ kept t low) ∙ ap (λ n. fed n t d (times_at t past)) at ∙ times-act t d past

-- a move of the clock leaves them as they are
pub kept-clock : (v : JobTimes) (tick : ℕ) (past : Past) → KeepsTimes v past → KeepsTimes v (Clock tick ∷ past)
unfolding end_clocks arrivals
kept-clock v tick past kept = kept

-- at opening there are none
pub kept-opening : (v : JobTimes) → ((t : ℕ) → t < length v.tasks.items → times_in v.tasks.items t ≡ no_times) → KeepsTimes v []
unfolding end_clocks arrivals
kept-opening v unbegun = unbegun
