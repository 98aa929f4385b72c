-- A group whose history was played again.
use Rattle.std.specs.Prelude.{◌≡◌, ℕ, ◌≤◌, length}
use Rattle.rt_task.specs.declared.Task.{Task}
use Rattle.rt_model.specs.Group as groups
use Rattle.rt_model.specs.Group.{Group}
use Rattle.rt_model.specs.Past.{Past}
use Rattle.view_replay.specs.Replays as replays
use Rattle.job_views.specs.Tables.{Keeps, task_count}
use Rattle.view_tables.specs.declared.played.Played.{Played}

abbrev pub group_of : Played → Group
group_of p = replays.group_of p.replay

abbrev pub spare : Played → ℕ
spare p = replays.spare p.replay

-- its facts and the table of its jobs are of this past, and the table has a position for each task
pub record IsPlayed (past : Past) (p : Played) : Type 0 where
  pub at : replays.IsAt p.replay past
  pub kept : Keeps p.table past
  pub tasks : task_count p.table ≡ length (group_of p).setup.tasks

-- the task is one of the group's setup
pub record HasTask (p : Played) (task : Task) : Type 0 where
  pub task_is : task ≡ groups.task (group_of p) task.number.0
  pub from_one : 1 ≤ task.number.0
  pub within : task.number.0 ≤ length (group_of p).setup.tasks
