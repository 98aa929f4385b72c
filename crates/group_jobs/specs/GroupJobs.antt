-- What is kept of a group's past, as contracts see it.
use Rattle.std.specs.Prelude.{◌≡◌, ℕ, ◌-◌, ◌<◌, ◌≤◌, Bool, true, false, List, length, Option, None, Some, if◌then◌else◌, slice_index_or}
use Rattle.std.specs.Prelude.{unwrap_or}
use Rattle.rt_base.specs.declared.TheConstants.{MOST_STEPS, TICK_END}
use Rattle.rt_task.specs.declared.Op.{Op}
use Rattle.rt_task.specs.declared.Op.TheVariants as ops
use Rattle.rt_task.specs.declared.Task.{Task}
use Rattle.rt_rules.specs.declared.history.Reply.{Reply}
use Rattle.rt_rules.specs.declared.history.Reply.TheVariants as replies
use Rattle.rt_model.specs.Group.{no_task}
use Rattle.rt_model.specs.Past.{is_work}
use Rattle.group_jobs.specs.Bounds.{AreBounded}
use Rattle.group_jobs.specs.Facts.{CpuFacts}
use Rattle.group_jobs.specs.Kept.{Kept, cpu_of, job_of}
use Rattle.group_jobs.specs.Words.{is_ready, release_of}
use Rattle.group_jobs.specs.Replies.{np_off_reply, np_on_reply, work_reply}

-- what is kept, and room for how many more arrivals
pub record GroupJobs : Type 0 where
  pub kept : Kept
  pub room : ℕ

-- the data of a task in the setup
abbrev pub task_in : List Task → ℕ → Task
task_in tasks t = slice_index_or tasks (t - 1) no_task

-- the release of a task's job, where that is ready
abbrev pub ready_now : List Task → Kept → ℕ → Option ℕ
ready_now rows k t =
    if is_ready k.clock (task_in rows t) (job_of k t) then Some (unwrap_or (release_of (task_in rows t) (job_of k t)) 0) else None

-- a task of these, whose numbers and counts are within the limits
pub record IsTaskOf (k : Kept) (tasks : List Task) (t : ℕ) : Type 0 where
  pub low : 1 ≤ t
  pub high : t ≤ length k.jobs
  pub all : length tasks ≡ length k.jobs
  pub phase_low : (task_in tasks t).phase < TICK_END
  pub period_low : (task_in tasks t).period < TICK_END
  pub clock_low : k.clock < TICK_END
  pub bounded : AreBounded MOST_STEPS k.clock (job_of k t)

-- what the processor runs, if anything, is one of the tasks
abbrev pub RunsTask : Kept → ℕ → Type 0
RunsTask k q = (t : ℕ) → (cpu_of k q).runs ≡ Some t → (1 ≤ t) × (t ≤ length k.jobs)

-- a processor after an operation at this clock that leaves it or not
abbrev pub cpu_left : ℕ → Op → Bool → CpuFacts → CpuFacts
cpu_left clock op is_left cpu = record {
  runs = if is_left then None else cpu.runs;
  worked = if is_work (Some op) then Some clock else cpu.worked;
}

-- ---- replies to operations

abbrev pub is_op_reply : Reply → Bool
is_op_reply replies.Done = true
is_op_reply replies.Granted = true
is_op_reply replies.Queued = true
is_op_reply _ = false

-- an operation that is at no semaphore, of a job that is non-preemptive or not, on a processor that last worked so
abbrev pub plain_reply : Op → ℕ → Option ℕ → Bool → Bool → Bool → Reply
plain_reply ops.Work clock worked np lacks_budget holds_none = work_reply clock worked lacks_budget
plain_reply ops.NpOn clock worked np lacks_budget holds_none = np_on_reply np
plain_reply ops.NpOff clock worked np lacks_budget holds_none = np_off_reply np
plain_reply op clock worked np lacks_budget holds_none =
    if np then replies.InNp else (if holds_none then replies.Done else replies.Holding)
