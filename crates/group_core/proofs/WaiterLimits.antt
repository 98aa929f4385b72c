-- What is kept of a group's tasks is within the limits.
use Rattle.std.proofs.Common.{◌≡◌, ℕ, ◌+◌, ◌-◌, ◌<◌, ◌≤◌, true, false, length, refl, sym, ap, subst, ◌∙◌, arith}
use Rattle.rt_base.specs.declared.TheConstants.{MOST_STEPS, TICK_END}
use Rattle.rt_task.specs.Validity.{IsValid}
use Rattle.rt_rules.specs.Numbers.{has}
use Rattle.rt_model.specs.Group.{Group, home, in_group, task, tasks}
use Rattle.rt_model.specs.Past.{Past, entries_in, now}
use Rattle.rt_plays.specs.Limits.{IsTaskInLimits}
use Rattle.rt_plays.specs.AtHome.{IsHomeTask}
use Rattle.rt_plays.proofs.AtHomeLaws.{tasks_are_at_home}
use Rattle.rt_plays.proofs.SetLimits.{sets_are_in_limits}
use Rattle.group_jobs.specs.Bounds.{AreBounded}
use Rattle.group_jobs.specs.Facts.{JobFacts, job_facts}
use Rattle.group_jobs.specs.Kept.{IsKept, Kept, job_of}
use Rattle.group_jobs.proofs.FactBounds.{facts_are_bounded}
use Rattle.group_jobs.specs.GroupJobs.{IsTaskOf, task_in}
use Rattle.group_core.specs.inside.Blocked.{CanRank, CanRankTask, home_in}
use Rattle.group_core.proofs.ReadingBlocked.{member-home, member-of}

weaker : (a b c : ℕ) (job : JobFacts) → a ≤ b → AreBounded a c job → AreBounded b c job
weaker a b c job le bounded = record {
  counts = omega (arith, bounded.counts);
  used_low = bounded.used_low;
  arrived_low = omega (arith, bounded.arrived_low);
  few_to_come = bounded.few_to_come;
  newest_come = bounded.newest_come;
  all_come = bounded.all_come;
}

module _ (g : Group) (valid : IsValid g.setup) where
  -- the position of a task of the group
  pub at_home : (t : ℕ) → has t (tasks g) ≡ true → IsHomeTask g t
  at_home t h = tasks_are_at_home g t valid h

  pub limits-of : (t : ℕ) → has t (tasks g) ≡ true → IsTaskInLimits t (length g.setup.clusters) (task_in g.setup.tasks t)
  limits-of t h =
      let low : 1 ≤ t = (at_home t h).low in
      let high : t ≤ length g.setup.tasks = (at_home t h).high in
      let position : t - 1 + 1 ≡ t = omega arith in
      subst (λ n. IsTaskInLimits n (length g.setup.clusters) (task_in g.setup.tasks t)) position ((sets_are_in_limits g.setup valid).tasks_in (t - 1) (omega arith))

  -- it is one of the tasks of which jobs are kept
  pub task-kept : (past : Past) (k : Kept) → IsKept g past k → entries_in past ≤ MOST_STEPS → now past < TICK_END → (t : ℕ) → has t (tasks g) ≡ true → IsTaskOf k g.setup.tasks t
  task-kept past k kept few clock_low t h = record {
    low = (at_home t h).low;
    high = omega (arith, (at_home t h).high, kept.jobs_length);
    all = sym kept.jobs_length;
    phase_low = (limits-of t h).phase_low;
    period_low = (limits-of t h).period_low;
    clock_low = omega (arith, kept.clock_is, clock_low);
    bounded =
        let facts : AreBounded (entries_in past) (now past) (job_facts t past) = facts_are_bounded t past in
        let now_is : AreBounded (entries_in past) k.clock (job_facts t past) = subst (λ c. AreBounded (entries_in past) c (job_facts t past)) (sym kept.clock_is) facts in
        weaker (entries_in past) MOST_STEPS k.clock (job_of k t) few (subst (AreBounded (entries_in past) k.clock) (sym (kept.jobs_are t h)) now_is);
  }

  pub home-read : (t : ℕ) → home_in g.setup t ≡ home g t
  unfolding home task
  home-read t = refl

  module _ (past : Past) (k : Kept) (kept : IsKept g past k) (few : entries_in past ≤ MOST_STEPS) (clock_low : now past < TICK_END) where
    can-rank : (c : ℕ) → in_group g c ≡ true → c < length g.setup.clusters → CanRank g.setup k c
    can-rank c inside there = record {
      limits = sets_are_in_limits g.setup valid;
      there = there;
      tasks = λ t low high home_is.
          let at : in_group g (home g t) ≡ true = ap (in_group g) (sym (home-read t) ∙ home_is) ∙ inside in
          task-kept past k kept few clock_low t (member-of g t low high at);
    }

    -- the tasks of its cluster are kept
    pub can-rank-task : (t : ℕ) → has t (tasks g) ≡ true → CanRankTask g.setup k t
    can-rank-task t h = record {
      low = (at_home t h).low;
      high = (at_home t h).high;
      ranks = can-rank (home_in g.setup t) (ap (in_group g) (home-read t) ∙ member-home g t h) (limits-of t h).cluster_there;
    }
