-- The facts of tasks and processors, by what is kept of them.
use Rattle.std.specs.Prelude.{ℕ, ◌<◌, ◌^◌, List, [], ◌∷◌, ⊤}
use Rattle.rt_base.specs.TaskNos.{number_of_task}
use Rattle.rt_base.specs.declared.TheConstants.{TICK_END}
use Rattle.rt_task.specs.declared.Op.{Op}
use Rattle.rt_task.specs.declared.Op.TheVariants as ops
use Rattle.group_jobs.specs.Facts.{JobFacts, CpuFacts}
use Rattle.group_jobs.specs.declared.states.TaskState.{TaskState}
use Rattle.group_jobs.specs.declared.cpus.CpuState.{CpuState}

-- a task with the arrivals that wait for its current job and for later ones
abbrev pub job_with : TaskState → List ℕ → JobFacts
job_with s queue = record {
  done = s.done;
  used = s.used;
  ops_done = s.ops_done;
  wakes = s.wakes;
  np = s.non_preemptive;
  arrived = s.arrived;
  newest = s.newest;
  to_come = queue;
}

abbrev pub jobs_with : List TaskState → List (List ℕ) → List JobFacts
jobs_with [] queues = []
jobs_with (s ∷ ss) [] = job_with s [] ∷ jobs_with ss []
jobs_with (s ∷ ss) (q ∷ qs) = job_with s q ∷ jobs_with ss qs

abbrev pub cpu_seen : CpuState → CpuFacts
cpu_seen c = record { runs = number_of_task c.runs; worked = c.worked }

-- one more of each count fits
pub record HasRoom (s : TaskState) : Type 0 where
  pub done : s.done < 2 ^ 63
  pub used : s.used < 2 ^ 63
  pub ops_done : s.ops_done < 2 ^ 63

-- a sleep is within the limit of ticks
abbrev pub SleepIsShort : Op → Type 0
SleepIsShort (ops.Sleep n) = n < TICK_END
SleepIsShort _ = ⊤
