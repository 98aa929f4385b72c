-- The table of jobs of a group: those that ended, and of each task the current one where it is there.
use Rattle.std.specs.Prelude.{ℕ, ◌+◌, List, map, flat_map, Option, ℤ, if◌then◌else◌}
use Rattle.rt_rules.specs.Numbers.{numbers_from}
use Rattle.rt_model.specs.Group.{Group, tasks}
use Rattle.rt_model.specs.Jobs.{done}
use Rattle.rt_model.specs.Past.{Past}
use Rattle.rt_model.specs.Releases.{exists}
use Rattle.trace_views.specs.JobTimes as times
use Rattle.trace_views.specs.JobTimes.{Outcome, release_of, deadline_of}
use Rattle.trace_views.specs.JobCounts as counts

-- a line; clocks are ticks, and what a job has not come to is missing
pub record JobRow : Type 0 where
  pub task : ℕ
  pub job : ℕ
  pub release : ℕ
  pub deadline : ℕ
  pub start : Option ℕ
  pub finish : Option ℕ
  pub end : Option ℕ
  pub outcome : Outcome
  pub units : ℕ
  pub response : Option ℤ
  pub lateness : Option ℤ
  pub preemptions : ℕ
  pub migrations : ℕ
  pub moves : ℕ
  pub requests : ℕ
  pub queued : ℕ
  pub ends : ℕ
  pub ends_all : ℕ

module _ (g : Group) where
  unfoldable pub job_row : ℕ → Past → ℕ → JobRow
  job_row t past k = record {
    task = t;
    job = k;
    release = release_of g t k past;
    deadline = deadline_of g t k past;
    start = times.start t k past;
    finish = times.finish t k past;
    end = times.end t k past;
    outcome = times.outcome g t k past;
    units = counts.units t k past;
    response = times.response g t k past;
    lateness = times.lateness g t k past;
    preemptions = counts.preemptions t k past;
    migrations = counts.migrations t k past;
    moves = counts.moves t k past;
    requests = counts.requests_made t k past;
    queued = counts.queued t k past;
    ends = counts.ends_seen g t k past;
    ends_all = counts.ends_all_seen g t k past;
  }

  -- the jobs of a task that are listed
  unfoldable pub listed : ℕ → Past → ℕ
  listed t past = if exists g t past then done t past + 1 else done t past

  unfoldable pub rows_of : ℕ → Past → List JobRow
  rows_of t past = map (job_row t past) (numbers_from 1 (listed t past))

  -- by task, and of each by job
  unfoldable pub job_rows : Past → List JobRow
  job_rows past = flat_map (λ t. rows_of t past) (tasks g)
