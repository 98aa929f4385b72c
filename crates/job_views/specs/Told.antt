-- What is kept, as the definitions speak of it.
use Rattle.std.specs.Prelude.{ℕ, ◌≤◌, List, map, slice_index_or}
use Rattle.rt_base.specs.declared.TheConstants.{MOST_STEPS}
use Rattle.job_facts.specs.Tallies.{Jobs, Tally, no_jobs}
use Rattle.job_views.specs.declared.tally.JobTally.{JobTally}
use Rattle.job_views.specs.declared.task_jobs.TaskJobs.{TaskJobs}

-- a job
abbrev pub tally_of : JobTally → Tally
tally_of x = record {
  start = x.start;
  unit = x.unit;
  end = x.end;
  last_cpu = x.last_cpu;
  units = x.units;
  preemptions = x.preemptions;
  migrations = x.migrations;
  moves = x.moves;
  requests = x.requests.items;
  queued = x.queued;
}

-- the jobs of a task
abbrev pub jobs_of : TaskJobs → Jobs
jobs_of x = record { ended = map tally_of x.ended.items; current = tally_of x.current; last_cpu = x.last_cpu; arrivals = x.arrivals.items }

-- the jobs of the task with a number, of a list that begins with number 0
abbrev pub jobs_in : List TaskJobs → ℕ → Jobs
jobs_in xs t = slice_index_or (map jobs_of xs) t no_jobs

-- a job can still do a unit, be preempted and ask
pub record HasRoom (x : Tally) : Type 0 where
  pub units_few : x.units ≤ MOST_STEPS
  pub preemptions_few : x.preemptions ≤ MOST_STEPS
  pub migrations_few : x.migrations ≤ MOST_STEPS
  pub queued_few : x.queued ≤ MOST_STEPS
