-- The marks of the jobs of tasks, in their tracks.
use Rattle.std.specs.Prelude.{◌≡◌, ℕ, ◌≤◌, true, List, length, map}
use Rattle.rt_base.specs.declared.TheConstants.{MOST_STEPS}
use Rattle.rt_task.specs.Validity.{IsValid}
use Rattle.rt_task.specs.declared.Task.{Task}
use Rattle.rt_rules.specs.Numbers.{has, numbers_from}
use Rattle.rt_model.specs.Group as groups
use Rattle.rt_model.specs.Group.{Group}
use Rattle.rt_model.specs.Past.{Past, entries_in, now}
use Rattle.trace_views.specs.JobRows.{listed}
use Rattle.event_lines.specs.Tracks.{JobMarks, TaskTrack}
use Rattle.event_lines.specs.TracksOf.{job_marks}
use Rattle.job_marks.specs.declared.job_times.JobTimes.{JobTimes}
use Rattle.job_marks.specs.JobTimes.{KeepsTimes, task_count}

-- the marks of the jobs of a task that are listed; and a track with these
abbrev pub marks_listed : Group → Past → ℕ → List JobMarks
marks_listed g past t = map (job_marks g t past) (numbers_from 1 (listed g t past))

abbrev pub with_marks : Group → Past → TaskTrack → TaskTrack
with_marks g past x = record x { jobs = marks_listed g past x.task }

abbrev pub HasTaskOf : Group → TaskTrack → Type 0
HasTaskOf g x = has x.task (groups.tasks g) ≡ true

-- the times are of this past of a valid group, at the clock, and these are the tasks of the group's setup
pub record AreJobsOf (g : Group) (past : Past) (tasks : List Task) (v : JobTimes) (clock : ℕ) : Type 0 where
  pub tasks_are : tasks ≡ g.setup.tasks
  pub valid : IsValid g.setup
  pub kept : KeepsTimes v past
  pub few : entries_in past ≤ MOST_STEPS
  pub clock_is : clock ≡ now past
  pub count : task_count v ≡ length g.setup.tasks
