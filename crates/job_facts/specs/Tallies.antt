-- What is kept of one job, and of all jobs of one task.
use Rattle.std.specs.Prelude.{ℕ, ◌+◌, List, [], map, Option, None}
use Rattle.rt_rules.specs.Numbers.{first, numbers_from}
use Rattle.rt_model.specs.Jobs.{done}
use Rattle.rt_model.specs.Past.{Past}
use Rattle.rt_model.specs.Releases.{arrivals}
use Rattle.trace_views.specs.JobTimes as times
use Rattle.trace_views.specs.JobCounts as counts
use Rattle.trace_views.specs.JobCounts.{last_cpu, unit_cpus}
use Rattle.job_facts.specs.RequestPositions.{request_positions}

-- a job: the clocks of its first and its newest unit and of its end, the processor of its newest unit, its counts, and the positions of its
-- requests among all requests, from 0
pub record Tally : Type 0 where
  pub start : Option ℕ
  pub unit : Option ℕ
  pub end : Option ℕ
  pub last_cpu : Option ℕ
  pub units : ℕ
  pub preemptions : ℕ
  pub migrations : ℕ
  pub moves : ℕ
  pub requests : List ℕ
  pub queued : ℕ

-- of a task the jobs that ended, in order, the job after them, the processor that took the task up last, and its arrivals
pub record Jobs : Type 0 where
  pub ended : List Tally
  pub current : Tally
  pub last_cpu : Option ℕ
  pub arrivals : List ℕ

-- job k of a task after a past
unfoldable pub tally_at : ℕ → ℕ → Past → Tally
tally_at t k past = record {
  start = times.start t k past;
  unit = times.last_unit t k past;
  end = times.end t k past;
  last_cpu = first (unit_cpus t k past);
  units = counts.units t k past;
  preemptions = counts.preemptions t k past;
  migrations = counts.migrations t k past;
  moves = counts.moves t k past;
  requests = request_positions t k past;
  queued = counts.queued t k past;
}

-- and the jobs of a task
unfoldable pub jobs_at : ℕ → Past → Jobs
jobs_at t past = record {
  ended = map (λ k. tally_at t k past) (numbers_from 1 (done t past));
  current = tally_at t (done t past + 1) past;
  last_cpu = last_cpu t past;
  arrivals = arrivals t past;
}

-- of a job that has not begun nothing is kept
abbrev pub nothing : Tally
nothing = record {
  start = None;
  unit = None;
  end = None;
  last_cpu = None;
  units = 0;
  preemptions = 0;
  migrations = 0;
  moves = 0;
  requests = [];
  queued = 0;
}

abbrev pub no_jobs : Jobs
no_jobs = record { ended = []; current = nothing; last_cpu = None; arrivals = [] }
