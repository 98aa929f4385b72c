-- Of which tasks all can be read.
use Rattle.std.proofs.Common.{◌≡◌, ℕ, ◌+◌, ◌-◌, ◌<◌, ◌≤◌, true, length, sym, ap, ◌∙◌, subst, arith}
use Rattle.rt_base.specs.declared.TheConstants.{MOST_STEPS, TICK_END}
use Rattle.rt_rules.specs.Numbers.{has}
use Rattle.rt_rules.proofs.NumberLaws.{has-numbers_from, numbers_from-below}
use Rattle.rt_model.specs.Group.{Group, sems}
use Rattle.rt_model.specs.Past.{entries_in, now}
use Rattle.rt_plays.specs.Limits.{IsTaskInLimits}
use Rattle.rt_plays.proofs.SetLimits.{sets_are_in_limits}
use Rattle.group_jobs.specs.Bounds.{AreBounded}
use Rattle.group_jobs.specs.Facts.{JobFacts, job_facts}
use Rattle.group_jobs.specs.Kept.{job_of}
use Rattle.group_jobs.proofs.FactBounds.{facts_are_bounded}
use Rattle.group_jobs.proofs.KeptMoves.{task-range}
use Rattle.group_jobs.specs.GroupJobs.{task_in}
use Rattle.split_rules.specs.PartPast.{moves}
use Rattle.part_state.specs.Reading.{CanBeRead}
use Rattle.part_state.specs.States.{sem_number}

-- fewer acts are within the limit
within : (n clock : ℕ) (job : JobFacts) → n ≤ MOST_STEPS → AreBounded n clock job → AreBounded MOST_STEPS clock job
within n clock job few b = record {
  counts = omega (arith, b.counts, few);
  used_low = b.used_low;
  arrived_low = omega (arith, b.arrived_low, few);
  few_to_come = b.few_to_come;
  newest_come = b.newest_come;
  all_come = b.all_come;
}

sem-range : (g : Group) (r : ℕ) → has r (sems g) ≡ true → (1 ≤ r) × (r ≤ length g.setup.sems)
unfolding sems
sem-range g r h =
    let low : 1 ≤ r = has-numbers_from r 1 (length g.setup.sems) h in
    let high : r < 1 + length g.setup.sems = numbers_from-below r 1 (length g.setup.sems) h in
    (low, omega (arith, high))

pub can_be_read : CanBeRead
can_be_read g t past s valid few clock known at there =
    let r = task-range g t there in
    let position : t - 1 + 1 ≡ t = omega (arith, r.0) in
    let inside : t - 1 < length g.setup.tasks = omega (arith, r.0, r.1) in
    let limits : IsTaskInLimits t (length g.setup.clusters) (task_in g.setup.tasks t) =
    subst (λ n. IsTaskInLimits n (length g.setup.clusters) (task_in g.setup.tasks t)) position
    ((sets_are_in_limits g.setup valid).tasks_in (t - 1) inside) in
    let bounds : AreBounded MOST_STEPS s.kept.clock (job_of s.kept t) =
    subst (λ j. AreBounded MOST_STEPS s.kept.clock j) (sym (at.kept.jobs_are t there))
    (subst (λ n. AreBounded MOST_STEPS n (job_facts t (moves past))) (sym at.kept.clock_is)
    (within (entries_in (moves past)) (now (moves past)) (job_facts t (moves past)) few (facts_are_bounded t (moves past)))) in
    record {
      task = record {
        low = r.0;
        high = let n = at.kept.jobs_length in omega (arith, r.1, n);
        all = sym at.kept.jobs_length;
        phase_low = limits.phase_low;
        period_low = limits.period_low;
        clock_low = subst (λ n. n < TICK_END) (sym at.kept.clock_is) clock;
        bounded = bounds;
      };
      deadline = limits.deadline_low;
      number = limits.number_is;
      held = λ m e. sem-range g m.0 (known t m.0 (sym (at.locks t there).holds ∙ ap sem_number e));
    }
