-- What follows from the facts of a task's jobs, its data in the setup, and the clock.
use Rattle.std.specs.Prelude.{◌≡◌, ℕ, ◌+◌, ◌*◌, Bool, not, ◌&&◌, ◌||◌, nat_le, nat_lt, Option, Some, is_none, unwrap_or}
use Rattle.rt_task.specs.declared.Kind.{Kind}
use Rattle.rt_task.specs.declared.Kind.TheVariants.{Periodic, Sporadic}
use Rattle.rt_task.specs.declared.PluginKind.{PluginKind}
use Rattle.rt_task.specs.declared.PluginKind.TheVariants as plugins
use Rattle.rt_task.specs.declared.Task.{Task}
use Rattle.rt_rules.specs.declared.Key.{Key}
use Rattle.rt_rules.specs.Numbers.{first, is_empty}
use Rattle.rt_model.specs.BaseKeys.{base_key}
use Rattle.rt_model.specs.Group.{Group, task, resv, served_by}
use Rattle.rt_model.specs.Holders.{awaits, holds}
use Rattle.rt_model.specs.Outcomes.{is_spent}
use Rattle.rt_model.specs.Past.{Past, now}
use Rattle.rt_model.specs.Releases.{has_come, release, deadline, is_released, opens_early, exists, ready}
use Rattle.rt_model.specs.Sleep.{sleeps}
use Rattle.rt_model.specs.Tops.{eligible, is_admitted, is_served}
use Rattle.group_jobs.specs.Facts.{JobFacts, job_facts}

-- the release of the current job
abbrev pub release_by_kind : Kind → Task → JobFacts → Option ℕ
release_by_kind Periodic task job = Some (task.phase + job.done * task.period)
release_by_kind Sporadic task job = first job.to_come

abbrev pub release_of : Task → JobFacts → Option ℕ
release_of task job = release_by_kind task.kind task job

abbrev pub deadline_of : Task → JobFacts → ℕ
deadline_of task job = unwrap_or (release_of task job) 0 + task.rel_deadline

-- whether the job is there, by its release or early, and whether it sleeps
abbrev pub is_early : ℕ → Task → JobFacts → Bool
is_early clock task job = task.early && (nat_lt 0 job.done && not (has_come clock (release_of task job)))

abbrev pub is_there : ℕ → Task → JobFacts → Bool
is_there clock task job = has_come clock (release_of task job) || is_early clock task job

abbrev pub is_asleep : ℕ → JobFacts → Bool
is_asleep clock job = nat_lt clock job.wakes

abbrev pub is_ready : ℕ → Task → JobFacts → Bool
is_ready clock task job = is_there clock task job && not (is_asleep clock job)

-- whether the job would end after its deadline
abbrev pub is_late : ℕ → Task → JobFacts → Bool
is_late clock task job = nat_lt (deadline_of task job) clock

-- whether an enforced job that has used its cost is to end: not while its task holds a semaphore or is non-preemptive
abbrev pub is_used_up : Task → Bool → JobFacts → Bool
is_used_up task holds_none job = task.enforce && (nat_le task.cost job.used && (holds_none && not job.np))

-- the base key of a task with this number
abbrev pub key_of : Group → PluginKind → ℕ → JobFacts → Key
key_of g plugins.PFp t job = record { band = 2; major = (task g t).prio; minor = t }
key_of g plugins.PRes t job = record { band = 2; major = (resv g (served_by g t)).prio; minor = served_by g t }
key_of g _ t job = record { band = 2; major = deadline_of (task g t) job; minor = t }

-- the words of the model, read off the clock and the facts of the task's jobs
pub record AreRead (g : Group) (t : ℕ) (past : Past) (clock : ℕ) (job : JobFacts) : Type 0 where
  pub release_is : release g t past ≡ release_of (task g t) job
  pub deadline_is : deadline g t past ≡ deadline_of (task g t) job
  pub late_is : nat_lt (deadline g t past) (now past) ≡ is_late clock (task g t) job
  pub released_is : is_released g t past ≡ has_come clock (release_of (task g t) job)
  pub early_is : opens_early g t past ≡ is_early clock (task g t) job
  pub there_is : exists g t past ≡ is_there clock (task g t) job
  pub asleep_is : sleeps t past ≡ is_asleep clock job
  pub ready_is : ready g t past ≡ is_ready clock (task g t) job
  pub eligible_is : eligible g t past ≡ is_ready clock (task g t) job
      && (is_none (awaits g t past) && (is_served g g.setup.plugin t past && is_admitted g g.setup.plugin t past))
  pub key_is : base_key g t past ≡ key_of g g.setup.plugin t job
  pub spent_is : is_spent g t past ≡ is_used_up (task g t) (is_empty (holds g t past)) job

-- Of each task at each past.
abbrev pub WordsAreRead : Type 0
WordsAreRead = (g : Group) (t : ℕ) (past : Past) → AreRead g t past (now past) (job_facts t past)
