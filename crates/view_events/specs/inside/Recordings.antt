-- A group whose spans and jobs are recorded as its steps are taken.
use Rattle.std.specs.Prelude.{◌≡◌, ℕ, ◌∷◌, length}
use Rattle.rt_model.specs.Group.{Group}
use Rattle.rt_model.specs.Past.{Clock, Past}
use Rattle.job_marks.specs.JobTimes.{KeepsTimes, task_count}
use Rattle.span_feed.specs.Feeds.{IsFed}
use Rattle.view_replay.specs.Replays as replays
use Rattle.view_events.specs.declared.recording.Recording.{Recording}

abbrev pub group_of : Recording → Group
group_of r = replays.group_of r.replay

abbrev pub spare : Recording → ℕ
spare r = replays.spare r.replay

-- whole steps were taken, which made this past; the spans and the times of jobs are of it, and these have a position for each task
pub record IsRecorded (past : Past) (r : Recording) : Type 0 where
  pub at : replays.IsAt r.replay past
  pub fed : IsFed (group_of r) past r.feed
  pub kept : KeepsTimes r.times past
  pub tasks : task_count r.times ≡ length (group_of r).setup.tasks

-- and then the clock was moved to this tick, of which the times are told nothing
pub record IsMoved (tick : ℕ) (past : Past) (r : Recording) : Type 0 where
  pub at : replays.IsMoved r.replay tick past
  pub fed : IsFed (group_of r) (Clock tick ∷ past) r.feed
  pub kept : KeepsTimes r.times past
  pub tasks : task_count r.times ≡ length (group_of r).setup.tasks
