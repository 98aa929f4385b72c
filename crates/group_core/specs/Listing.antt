-- Listing the tasks that wait for the semaphore that an act frees.
use Rattle.std.specs.Prelude.{◌≡◌, ℕ, ◌≤◌, ◌<◌, Bool, true, false, List, [], length, Option, None, Some, is_none, if◌then◌else◌, ⊤}
use Rattle.rt_base.specs.declared.TheConstants.{MOST_STEPS, TICK_END}
use Rattle.rt_base.specs.declared.SemNo.{SemNo}
use Rattle.rt_task.specs.declared.Act.{Act}
use Rattle.rt_task.specs.declared.Act.TheVariants as acts
use Rattle.rt_task.specs.declared.Op.TheVariants as ops
use Rattle.rt_task.specs.declared.Parts.{Parts}
use Rattle.rt_task.specs.Validity.{IsValid}
use Rattle.rt_rules.specs.Numbers.{has}
use Rattle.rt_rules.specs.SemState.{Frees, SemAct}
use Rattle.rt_model.specs.Answers.{answer}
use Rattle.rt_model.specs.Group.{Group, tasks}
use Rattle.rt_model.specs.Past.{Past, entries_in, now}
use Rattle.rt_model.specs.Reachable.{IsReachable}
use Rattle.rt_model.specs.Runs.{runs}
use Rattle.rt_model.specs.Steps.{IsActOf}
use Rattle.rt_plays.specs.Homes.{IsProcessorOf}
use Rattle.rt_changes.specs.Tallies.{AreWaiters, Waiter, act_by}
use Rattle.sem_table.specs.SemTable.{SemTable}
use Rattle.group_jobs.specs.Kept.{IsKept, Kept}
use Rattle.group_sems.specs.GroupSems.{GroupSems}
use Rattle.group_sems.specs.Refusing.{unlock_refusal}
use Rattle.group_sems.specs.Kept.{KeepsGroupSems}

-- the semaphore that an act frees where this task runs: an Unlock that is not refused
abbrev pub goes : Parts → SemTable → Option ℕ → SemNo → Bool
goes p w None s = false
goes p w (Some t) s = is_none (unlock_refusal p w t s.0)

abbrev pub freed_at : Parts → SemTable → Option ℕ → Act → Option SemNo
freed_at p w runs (acts.Do (ops.Unlock s)) = if goes p w runs s then Some s else None
freed_at p w runs _ = None

-- the semaphore that an Unlock names is one of the set
abbrev pub NamesSem : Parts → Act → Type 0
NamesSem p (acts.Do (ops.Unlock s)) = (1 ≤ s.0) × (s.0 ≤ length p.sems)
NamesSem p _ = ⊤

-- a group after a past
pub record GroupAt : Type 0 where
  pub group : Group
  pub past : Past

-- these are the tasks that wait for the semaphore that is freed, and none where none is
abbrev pub AreListed : Group → Past → SemAct → List Waiter → Type 0
AreListed g past (Frees t s) ws = AreWaiters g s past ws
AreListed g past _ ws = ws ≡ []

-- at this moment, and for an act of the processor
abbrev pub AreWaitersAt : GroupAt → ℕ → Act → List Waiter → Type 0
AreWaitersAt at q act ws = AreListed at.group at.past (act_by act (answer at.group q act at.past) (runs q at.past)) ws

-- what is kept of jobs and semaphores is of this moment of a group, and the act is one of its processors'
pub record CanList (at : GroupAt) (p : Parts) (k : Kept) (v : GroupSems) (q : ℕ) (act : Act) (room : ℕ) : Type 0 where
  pub valid : IsValid at.group.setup
  pub reachable : IsReachable at.group at.past
  pub few : entries_in at.past ≤ MOST_STEPS
  pub clock_low : now at.past < TICK_END
  pub parts_are : p ≡ at.group.setup
  pub jobs_are : IsKept at.group at.past k
  pub sems_are : KeepsGroupSems at.group at.past v
  pub inside : IsProcessorOf at.group q
  pub act_is_of : IsActOf at.group act
  pub has_room : length at.group.setup.tasks ≤ room

-- what is kept of jobs and semaphores is of this moment of a group, and the task is one of its tasks
pub record CanAsk (at : GroupAt) (p : Parts) (k : Kept) (v : GroupSems) (t : ℕ) : Type 0 where
  pub valid : IsValid at.group.setup
  pub reachable : IsReachable at.group at.past
  pub few : entries_in at.past ≤ MOST_STEPS
  pub clock_low : now at.past < TICK_END
  pub parts_are : p ≡ at.group.setup
  pub jobs_are : IsKept at.group at.past k
  pub sems_are : KeepsGroupSems at.group at.past v
  pub member : has t (tasks at.group) ≡ true
