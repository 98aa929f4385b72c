-- What each move makes of the facts of a task and of a processor.
use Rattle.std.specs.Prelude.{ℕ, ◌+◌, max, Bool, true, false, nat_le, [], ◌∷◌, ◌++◌, ◌||◌, None, Some, if◌then◌else◌}
use Rattle.rt_task.specs.declared.Act.{Act}
use Rattle.rt_task.specs.declared.Act.TheVariants as acts
use Rattle.rt_task.specs.declared.Op.{Op}
use Rattle.rt_task.specs.declared.Op.TheVariants as ops
use Rattle.rt_task.specs.declared.Task.{Task}
use Rattle.rt_rules.specs.declared.history.Reply.{Reply}
use Rattle.rt_rules.specs.Numbers.{rest}
use Rattle.rt_model.specs.NonPreemptive.{np_after}
use Rattle.rt_model.specs.Past.{accepted, is_work}
use Rattle.rt_model.specs.Runs.{leaves, runs_by}
use Rattle.rt_model.specs.Sleep.{sleep_end}
use Rattle.group_jobs.specs.Facts.{JobFacts, CpuFacts}
use Rattle.group_jobs.specs.Words.{is_used_up}

-- an accepted operation at this clock, where it does not end the job
abbrev pub op_done : ℕ → Op → JobFacts → JobFacts
op_done clock op job = record job {
  used = if is_work (Some op) then job.used + 1 else job.used;
  ops_done = job.ops_done + 1;
  wakes = max (sleep_end clock (Some op)) job.wakes;
  np = np_after (Some op) job.np;
}

-- the current job ends, and the next one becomes the current one
abbrev pub job_ended : JobFacts → JobFacts
job_ended job = record {
  done = job.done + 1;
  used = 0;
  ops_done = 0;
  wakes = 0;
  np = false;
  arrived = job.arrived;
  newest = job.newest;
  to_come = rest job.to_come;
}

-- an accepted arrival at this clock; a task that has ended more jobs than arrived has ended this one too
abbrev pub job_arrived : ℕ → JobFacts → JobFacts
job_arrived clock job = record job {
  arrived = job.arrived + 1;
  newest = Some clock;
  to_come = if nat_le job.done job.arrived then job.to_come ++ clock ∷ [] else job.to_come;
}

-- whether an accepted operation ends the job: an End does, and any other by force; `holds_none` is of the semaphores after it
abbrev pub is_end : Task → ℕ → Op → Bool → JobFacts → Bool
is_end task clock ops.End holds_none job = true
is_end task clock op holds_none job = is_used_up task holds_none (op_done clock op job)

abbrev pub after_op : Task → ℕ → Op → Bool → JobFacts → JobFacts
after_op task clock op holds_none job = if is_end task clock op holds_none job then job_ended job else op_done clock op job

-- a processor after its own act: whether that ended the job of the task that it ran
abbrev pub works : Act → Reply → Bool
works (acts.Do ops.Work) reply = accepted reply
works _ reply = false

abbrev pub cpu_after : ℕ → Act → Reply → Bool → CpuFacts → CpuFacts
cpu_after clock act reply ends cpu = record {
  runs = if ends || leaves act reply then None else runs_by reply cpu.runs;
  worked = if works act reply then Some clock else cpu.worked;
}
