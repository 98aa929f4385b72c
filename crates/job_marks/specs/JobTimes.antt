-- When the jobs of a group arrived and ended, as contracts see it.
use Rattle.std.specs.Prelude.{◌≡◌, ℕ, ◌-◌, ◌<◌, ◌≤◌, List, length, map, slice_index_or}
use Rattle.rt_base.specs.declared.TheConstants.{MOST_STEPS}
use Rattle.rt_task.specs.declared.Task.{Task}
use Rattle.rt_task.specs.Validity.{IsValid}
use Rattle.rt_model.specs.Group as groups
use Rattle.rt_model.specs.Group.{Group}
use Rattle.rt_model.specs.Past.{Past, entries_in, now}
use Rattle.job_marks.specs.declared.job_times.JobTimes.{JobTimes}
use Rattle.job_marks.specs.declared.task_times.TaskTimes.{TaskTimes}
use Rattle.job_marks.specs.Times.{Times, no_times, times_at}

abbrev pub times_of : TaskTimes → Times
times_of x = record { arrivals = x.arrivals.items; ends = x.ends.items }

-- of the task with a number, of a list that begins with number 0
abbrev pub times_in : List TaskTimes → ℕ → Times
times_in xs t = slice_index_or (map times_of xs) t no_times

abbrev pub task_count : JobTimes → ℕ
task_count v = length v.tasks.items - 1

-- the times are of this past
abbrev pub KeepsTimes : JobTimes → Past → Type 0
KeepsTimes v past = (t : ℕ) → t < length v.tasks.items → times_in v.tasks.items t ≡ times_at t past

-- they are of this past of a valid group, at the clock, and this is the task of the group's setup with this number
pub record IsTimesOf (g : Group) (past : Past) (t : ℕ) (v : JobTimes) (task : Task) (clock : ℕ) : Type 0 where
  pub kept : KeepsTimes v past
  pub valid : IsValid g.setup
  pub few : entries_in past ≤ MOST_STEPS
  pub clock_is : clock ≡ now past
  pub task_is : task ≡ groups.task g t
  pub from_one : 1 ≤ t
  pub within : t ≤ length g.setup.tasks
  pub there : t ≤ task_count v
