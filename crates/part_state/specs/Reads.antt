-- What is read off what a partition keeps: whether a task may run, its key, and the link of the processor.
use Rattle.std.specs.Prelude.{◌≡◌, ℕ, ◌-◌, ◌<◌, ◌≤◌, Bool, ◌&&◌, List, length, Option, None, Some, if◌then◌else◌}
use Rattle.std.specs.Prelude.{is_none, slice_index_or, unwrap_or}
use Rattle.rt_base.specs.declared.SemNo.{SemNo}
use Rattle.rt_base.specs.declared.TheConstants.{TICK_END}
use Rattle.rt_task.specs.declared.Parts.{Parts}
use Rattle.rt_task.specs.declared.Protocol.{Protocol}
use Rattle.rt_task.specs.declared.Protocol.TheVariants.{Fmlp, Mpcp}
use Rattle.rt_rules.specs.declared.Key.{Key}
use Rattle.rt_rules.specs.Keys.{Ranked, ahead}
use Rattle.rt_rules.specs.Numbers.{first}
use Rattle.rt_rules.specs.Rankings.{ranked_by, tasks_of}
use Rattle.rt_model.specs.Group.{no_sem}
use Rattle.rt_plays.specs.Plays.{group_with}
use Rattle.group_jobs.specs.Kept.{job_of}
use Rattle.group_jobs.specs.Words.{is_ready, key_of}
use Rattle.group_jobs.specs.GroupJobs.{IsTaskOf, task_in}
use Rattle.mpcp_ceilings.specs.Ceilings.{CeilingTable, ceiling_in}
use Rattle.part_state.specs.States.{PartState, lock_of}

-- a task of the set of which all can be read
pub record CanRead (p : Parts) (s : PartState) (t : ℕ) : Type 0 where
  pub task : IsTaskOf s.kept p.tasks t
  pub deadline : (task_in p.tasks t).rel_deadline < TICK_END
  pub number : (task_in p.tasks t).number.0 ≡ t
  pub held : (r : SemNo) → (lock_of s t).holds ≡ Some r → (1 ≤ r.0) × (r.0 ≤ length p.sems)

module _ (p : Parts) (c : CeilingTable) (s : PartState) where
  -- a holder is boosted: under FMLP by the clock at which it began to hold, under MPCP by the ceiling
  abbrev pub boost_under : Protocol → ℕ → ℕ → ℕ → Option Key
  boost_under Fmlp r t since = Some (record { band = 0; major = since; minor = t })
  boost_under Mpcp r t since = Some (record { band = 1; major = ceiling_in p c r t; minor = t })
  boost_under _ r t since = None

  abbrev pub boost_by : Option SemNo → ℕ → ℕ → Option Key
  boost_by None t since = None
  boost_by (Some r) t since = boost_under (slice_index_or p.sems (r.0 - 1) no_sem).protocol r.0 t since

  abbrev pub boost_in : ℕ → Option Key
  boost_in t = boost_by (lock_of s t).holds t (lock_of s t).since

  -- the key of a task: its boost, or else its base key
  abbrev pub key_in : ℕ → Key
  key_in t = unwrap_or (boost_in t) (key_of (group_with p 0) p.plugin t (job_of s.kept t))

  -- its job is there, and it waits for nothing
  abbrev pub may_run : ℕ → Bool
  may_run t = is_ready s.kept.clock (task_in p.tasks t) (job_of s.kept t) && is_none (lock_of s t).waits

  -- the better of a task that may run and the best of others
  abbrev pub better : Ranked → Option Ranked → Option Ranked
  better r None = Some r
  better r (Some b) = if ahead r b then Some r else Some b

  abbrev pub better_with : ℕ → Option Ranked → Option Ranked
  better_with t o = if may_run t then better (record { key = key_in t; task = t }) o else o

  -- the first of the ranking of those of these tasks that may run
  abbrev pub link_in : List ℕ → Option ℕ
  link_in ts = first (tasks_of (ranked_by key_in may_run ts))
