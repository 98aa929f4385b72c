-- The times of jobs, asked of the task of a track.
use Rattle.std.proofs.Common.{◌≡◌, ◌∙◌, ℕ, ◌-◌, ◌<◌, ◌≤◌, true, List, length, get_or, ap, arith}
use Rattle.std.proofs.lemmas.List.{get_or_default}
use Rattle.rt_task.specs.declared.Task.{Task}
use Rattle.rt_rules.specs.Numbers.{has}
use Rattle.rt_model.specs.Group as groups
use Rattle.rt_model.specs.Group.{Group, no_task}
use Rattle.rt_model.specs.Past.{Past}
use Rattle.group_jobs.proofs.KeptMoves.{task-range}
use Rattle.job_marks.specs.declared.job_times.JobTimes.{JobTimes}
use Rattle.job_marks.specs.JobTimes.{IsTimesOf}
use Rattle.view_events.specs.inside.JobMarks.{AreJobsOf}

module _ (g : Group) (past : Past) (tasks : List Task) (v : JobTimes) (clock : ℕ) (are : AreJobsOf g past tasks v clock) (t : ℕ) (of_group : has t (groups.tasks g) ≡ true) where
  pub from-one : 1 ≤ t
  from-one = (task-range g t of_group).0

  pub within : t - 1 < length tasks
  within = omega (arith, task-range g t of_group, ap length are.tasks_are)

  pub with-times : (task : Task) → task ≡ get_or tasks (t - 1) task → IsTimesOf g past t v task clock
  unfolding groups.task
  with-times task read = record {
    kept = are.kept;
    valid = are.valid;
    few = are.few;
    clock_is = are.clock_is;
    task_is = read ∙ get_or_default tasks (t - 1) task no_task within ∙ ap (λ xs. get_or xs (t - 1) no_task) are.tasks_are;
    from_one = from-one;
    within = omega (arith, task-range g t of_group);
    there = omega (arith, task-range g t of_group, are.count);
  }
