-- Which waiting tasks are priority-blocked, read off what is kept of a group.
use Rattle.std.specs.Prelude.{◌≡◌, ℕ, ◌≤◌, ◌<◌, Bool, true, false, ◌&&◌, ◌==◌, nat_lt, List, length, map, count_by, slice_index_or}
use Rattle.rt_task.specs.declared.Parts.{Parts}
use Rattle.rt_task.specs.declared.Task.{Task}
use Rattle.rt_rules.specs.declared.Key.{Key}
use Rattle.rt_rules.specs.KeyOrder.{higher}
use Rattle.rt_rules.specs.Numbers.{has}
use Rattle.rt_model.specs.Group.{no_cluster}
use Rattle.rt_plays.specs.Plays.{group_with}
use Rattle.rt_plays.specs.Limits.{IsInLimits}
use Rattle.rt_changes.specs.Tallies.{Waiter}
use Rattle.group_jobs.specs.Kept.{Kept, job_of}
use Rattle.group_jobs.specs.Words.{is_there, key_of}
use Rattle.group_jobs.specs.GroupJobs.{IsTaskOf, task_in}

-- the cluster of a task
abbrev pub home_in : Parts → ℕ → ℕ
home_in p t = (task_in p.tasks t).cluster.0

module _ (p : Parts) (k : Kept) where
  -- the base key of its job
  abbrev pub key_in : ℕ → Key
  key_in t = key_of (group_with p 0) p.plugin t (job_of k t)

  -- the task is of the cluster, and has a current job with a higher base key
  abbrev pub is_above : ℕ → Key → Task → Bool
  is_above c key task =
      task.cluster.0 == c && (is_there k.clock task (job_of k task.number.0) && higher (key_in task.number.0) key)

  -- fewer tasks of its cluster than this has processors have a current job with a higher base key
  abbrev pub is_among_first : ℕ → Bool
  is_among_first t =
      nat_lt (count_by (is_above (home_in p t) (key_in t)) p.tasks) (slice_index_or p.clusters (home_in p t) no_cluster).cpus

  -- of tasks that wait
  abbrev pub waiter_now : ℕ → Waiter
  waiter_now t = record { task = t; blocked = is_among_first t }

  abbrev pub waiters_now : List ℕ → List Waiter
  waiters_now ts = map waiter_now ts

  -- the tasks of a cluster are kept, within the limits
  pub record CanRank (c : ℕ) : Type 0 where
    pub limits : IsInLimits p
    pub there : c < length p.clusters
    pub tasks : (t : ℕ) → 1 ≤ t → t ≤ length p.tasks → home_in p t ≡ c → IsTaskOf k p.tasks t

  -- these are tasks of the set, and those of their clusters are kept
  pub record CanRankTask (t : ℕ) : Type 0 where
    pub low : 1 ≤ t
    pub high : t ≤ length p.tasks
    pub ranks : CanRank (home_in p t)

  abbrev pub CanRankAll : List ℕ → Type 0
  CanRankAll ts = (t : ℕ) → has t ts ≡ true → CanRankTask t
