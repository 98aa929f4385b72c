-- The jobs of a group, as contracts see them.
use Rattle.std.specs.Prelude.{◌≡◌, ℕ, ◌+◌, ◌-◌, ◌<◌, ◌≤◌, List, length, slice_index_or, Option, None}
use Rattle.rt_base.specs.TaskNos.{number_of_task}
use Rattle.rt_base.specs.declared.TaskNo.{TaskNo}
use Rattle.rt_base.specs.declared.TheConstants.{MOST_CPUS, MOST_STEPS}
use Rattle.rt_task.specs.declared.Act.{Act}
use Rattle.rt_task.specs.declared.Task.{Task}
use Rattle.rt_task.specs.Validity.{IsValid}
use Rattle.rt_model.specs.Blocking.{requests}
use Rattle.rt_model.specs.Group as groups
use Rattle.rt_model.specs.Group.{Group}
use Rattle.rt_model.specs.Jobs.{done}
use Rattle.rt_model.specs.Outcomes.{past_act}
use Rattle.rt_model.specs.Past.{Past, PastAct, entries_in, now}
use Rattle.rt_model.specs.Reachable.{IsReachable}
use Rattle.block_counts.specs.declared.seen.Seen.{Seen}
use Rattle.block_counts.specs.SeenWords.{tallies_of}
use Rattle.rt_changes.specs.Tallies.{tallies}
use Rattle.job_facts.specs.Tallies.{jobs_at}
use Rattle.job_facts.specs.Workers.{worker}
use Rattle.job_views.specs.declared.table.JobTable.{JobTable}
use Rattle.job_views.specs.Told.{jobs_in}

abbrev pub task_count : JobTable → ℕ
task_count v = length v.tasks.items - 1

abbrev pub worker_in : List (Option TaskNo) → ℕ → Option ℕ
worker_in ws q = number_of_task (slice_index_or ws q None)

-- the table is of this past
pub record Keeps (v : JobTable) (past : Past) : Type 0 where
  pub tasks_are : (t : ℕ) → t < length v.tasks.items → jobs_in v.tasks.items t ≡ jobs_at t past
  pub workers_are : (q : ℕ) → q < MOST_CPUS → worker_in v.workers q ≡ worker q past
  pub asked_is : v.asked ≡ length (requests past)

-- it is of this past of a group, and this act may be the next
pub record CanFeed (v : JobTable) (past : Past) (clock : ℕ) (d : PastAct) : Type 0 where
  pub kept : Keeps v past
  pub group : Group
  pub reachable : IsReachable group past
  pub few : entries_in past ≤ MOST_STEPS
  pub clock_is : clock ≡ now past
  pub act : Act
  pub act_is : d ≡ past_act group d.cpu act past
  pub processor : d.cpu < MOST_CPUS

-- it is of this past of a valid group, at the clock, and this is a task of the group's setup
pub record IsTableOf (g : Group) (past : Past) (v : JobTable) (task : Task) (clock : ℕ) : Type 0 where
  pub kept : Keeps v past
  pub valid : IsValid g.setup
  pub few : entries_in past ≤ MOST_STEPS
  pub clock_is : clock ≡ now past
  pub task_is : task ≡ groups.task g task.number.0
  pub from_one : 1 ≤ task.number.0
  pub within : task.number.0 ≤ length g.setup.tasks
  pub there : task.number.0 ≤ task_count v

-- and these are the requests of the group
pub record IsTableWith (g : Group) (past : Past) (v : JobTable) (task : Task) (clock : ℕ) (requests : List Seen) : Type 0 where
  pub table : IsTableOf g past v task clock
  pub requests_are : tallies_of requests ≡ tallies g past

-- and this is one of its jobs so far
pub record IsLineOf (g : Group) (past : Past) (v : JobTable) (task : Task) (clock job : ℕ) (requests : List Seen) : Type 0 where
  pub with_requests : IsTableWith g past v task clock requests
  pub first : 1 ≤ job
  pub begun : job ≤ done task.number.0 past + 1
