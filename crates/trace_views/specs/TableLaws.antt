-- The laws of the tables: what a line of the table of tasks says is so of the whole past.
use Rattle.std.specs.Prelude.{◌≡◌, ℕ, ◌&&◌, nat_lt}
use Rattle.rt_model.specs.Group.{Group}
use Rattle.rt_model.specs.Past.{Past, ends_job, now}
use Rattle.rt_model.specs.Releases.{deadline}
use Rattle.rt_laws.specs.EveryPast.{EveryPast}
use Rattle.trace_views.specs.JobMoves.{Test, count_moves}
use Rattle.trace_views.specs.JobTimes.{works}
use Rattle.trace_views.specs.JobCounts.{preempts, moves_now, asks_now, queues_now}
use Rattle.trace_views.specs.TaskRows.{task_row}

-- a move ends a job of the task when the clock is past that job's deadline
abbrev pub ends_late : Group → ℕ → Test
ends_late g t e past = ends_job t e && nat_lt (deadline g t past) (now past)

-- the sums in the line of a task leave out no move: no job works, is preempted, moves or asks that is not listed
pub record CountsAll (g : Group) (t : ℕ) (past : Past) : Type 0 where
  pub all_units : (task_row g past t).units ≡ count_moves (works t) past
  pub all_preemptions : (task_row g past t).preemptions ≡ count_moves (preempts t) past
  pub all_moves : (task_row g past t).moves ≡ count_moves (moves_now t) past
  pub all_requests : (task_row g past t).requests ≡ count_moves (asks_now t) past
  pub all_queued : (task_row g past t).queued ≡ count_moves (queues_now t) past

-- The lines of the jobs of a task count each unit, preemption, move and request of the past once.
abbrev pub RowsCountAll : Type 0
RowsCountAll = EveryPast (λ g past. (t : ℕ) → CountsAll g t past)

-- The late jobs of a task are those that ended when the clock was past their deadline.
abbrev pub LateEndedLate : Type 0
LateEndedLate = EveryPast (λ g past. (t : ℕ) → (task_row g past t).late ≡ count_moves (ends_late g t) past)
