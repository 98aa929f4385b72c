-- Looking at tasks anew: their timers, whether their jobs are eligible and with which keys, and what their reservations are told.
use Rattle.std.specs.Prelude.{◌≡◌, ℕ, ◌<◌, false, true, List, [], ◌∷◌, length, map, Option, None, Some, if◌then◌else◌, option_map}
use Rattle.std.specs.Prelude.{slice_index, slice_set}
use Rattle.rt_rules.specs.declared.Key.{Key}
use Rattle.rt_task.specs.declared.Act.{Act}
use Rattle.rt_task.specs.declared.Act.TheVariants as acts
use Rattle.rt_task.specs.declared.Parts.{Parts}
use Rattle.rt_rules.specs.declared.history.Reply.{Reply}
use Rattle.rt_rules.specs.Numbers.{has}
use Rattle.rt_model.specs.Past.{accepted}
use Rattle.release_queue.specs.Timers.{tick_at}
use Rattle.group_jobs.specs.Kept.{cpu_of}
use Rattle.group_jobs.specs.GroupJobs.{IsTaskOf, task_in}
use Rattle.cluster_table.specs.Clusters.{after_take, left_by, relinked, with_key}
use Rattle.cluster_table.specs.Table.{HasProcessor, HasTask, Table, changed_at}
use Rattle.group_sems.specs.Telling.{HasBase}
use Rattle.group_core.specs.Facts.{Facts, told_in}
use Rattle.group_core.specs.Reads.{is_candidate, key_in, timer_in}
use Rattle.group_engine.specs.declared.state.GroupState.{GroupState}

abbrev pub home_in : Parts → ℕ → ℕ
home_in p t = (task_in p.tasks t).cluster.0

-- one after the other
abbrev pub in_turn : (ℕ → GroupState → GroupState) → List ℕ → GroupState → GroupState
in_turn step [] s = s
in_turn step (t ∷ ts) s = in_turn step ts (step t s)

-- its effective key, where its job is eligible
abbrev pub key_now : Parts → Facts → ℕ → Option Key
key_now p f t = if is_candidate p f.kept f.sems f.resvs t then Some (key_in f.sems t) else None

-- it stands among the tasks of its cluster where it is eligible
abbrev pub requeued : Parts → ℕ → GroupState → GroupState
requeued p t s = record s { clusters = changed_at (home_in p t) (with_key t (key_now p s.core.facts t)) s.clusters }

abbrev pub all_requeued : Parts → List ℕ → GroupState → GroupState
all_requeued p ts s = in_turn (requeued p) ts s

-- its timer is armed for the moment that its job waits for
abbrev pub armed : Parts → ℕ → GroupState → GroupState
armed p t s = record s { timers = slice_set s.timers t (timer_in p s.core.facts.kept t) }

-- its reservation, if it has one, is told
abbrev pub resv_told : Parts → ℕ → GroupState → GroupState
resv_told p t s = record s { core = record s.core { facts = told_in p t s.core.facts } }

abbrev pub updated : Parts → ℕ → GroupState → GroupState
updated p t s = resv_told p t (armed p t (requeued p t s))

abbrev pub all_updated : Parts → List ℕ → GroupState → GroupState
all_updated p ts s = in_turn (updated p) ts s

-- the links are placed anew
abbrev pub placed_all : GroupState → GroupState
placed_all s = record s { clusters = record s.clusters { clusters = map (option_map relinked) s.clusters.clusters } }

-- the cluster of a processor has what that runs after an act, answered so: its link after an interrupt that is accepted, and
-- nothing after an operation that leaves it with nothing to run
abbrev pub run_updated : ℕ → Act → Reply → Option ℕ → Table → Table
run_updated q acts.Irq reply runs t = if accepted reply then changed_at (slice_index t.homes q) (after_take q false) t else t
run_updated q (acts.Do op) reply None t = changed_at (slice_index t.homes q) (left_by q) t
run_updated q _ reply runs t = t

abbrev pub with_run : ℕ → Act → Reply → GroupState → GroupState
with_run q act reply s = record s { clusters = run_updated q act reply (cpu_of s.core.facts.kept q).runs s.clusters }

-- the processor is of its cluster
pub record CanUpdateRun (q : ℕ) (s : GroupState) : Type 0 where
  pub cpu : q < length s.core.facts.kept.cpus
  pub home : q < length s.clusters.homes
  pub there : HasProcessor s.clusters (slice_index s.clusters.homes q) q

-- what putting a task where it stands rests on
pub record CanRequeue (p : Parts) (t : ℕ) (s : GroupState) : Type 0 where
  pub task : IsTaskOf s.core.facts.kept p.tasks t
  pub has_base : HasBase s.core.facts.sems.waits.bases t
  pub at_home : HasTask s.clusters (home_in p t) t

abbrev pub CanRequeueAll : Parts → List ℕ → GroupState → Type 0
CanRequeueAll p ts s = (t : ℕ) → has t ts ≡ true → CanRequeue p t s

-- what looking at a task rests on
pub record CanUpdate (p : Parts) (t : ℕ) (s : GroupState) : Type 0 where
  pub task : IsTaskOf s.core.facts.kept p.tasks t
  pub has_base : HasBase s.core.facts.sems.waits.bases t
  pub timer_room : t < length s.timers
  pub at_home : HasTask s.clusters (home_in p t) t

abbrev pub CanUpdateAll : Parts → List ℕ → GroupState → Type 0
CanUpdateAll p ts s = (t : ℕ) → has t ts ≡ true → CanUpdate p t s

-- all these tasks can be looked at, and have their numbers
abbrev pub AreNumbered : Parts → List ℕ → GroupState → Type 0
AreNumbered p ts s = (t : ℕ) → has t ts ≡ true → CanUpdate p t s × ((task_in p.tasks t).number.0 ≡ t)

-- no other task waits for a moment
abbrev pub AreArmedOnly : List ℕ → GroupState → Type 0
AreArmedOnly ts s = (t tick : ℕ) → tick_at s.timers t ≡ Some tick → has t ts ≡ true
