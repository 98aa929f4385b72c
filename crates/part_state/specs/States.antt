-- What a partition keeps: its clock, its jobs and what its processor runs, and what each task holds and waits for; and what each move, and
-- each grant that is taken, makes of it.
use Rattle.std.specs.Prelude.{◌≡◌, ℕ, ◌-◌, true, List, length, replicate, Option, None, Some, option_map, slice_index_or, slice_set}
use Rattle.rt_base.specs.declared.Ask.TheVariants.{Granted, Queued}
use Rattle.rt_base.specs.declared.SemNo.{SemNo}
use Rattle.rt_task.specs.declared.Act.{Act}
use Rattle.rt_task.specs.declared.Task.{Task}
use Rattle.rt_rules.specs.declared.history.Reply.{Reply}
use Rattle.rt_rules.specs.Numbers.{has}
use Rattle.rt_model.specs.Group.{Group, tasks}
use Rattle.group_jobs.specs.Kept.{IsKept, Kept, cpu_of, has_acted}
use Rattle.group_jobs.specs.Kept as jobs
use Rattle.split_rules.specs.PartPast.{Asks, Claim, Deed, Frees, Gets, PartPast, TaskDeed, deed_of, moves}
use Rattle.split_rules.specs.PartSems.{awaiting, held_since, holding}
use Rattle.part_state.specs.declared.locks.TaskLock.{TaskLock}

-- the tasks by their number less 1
pub record PartState : Type 0 where
  pub kept : Kept
  pub locks : List TaskLock

-- a task that has asked for nothing
abbrev pub no_lock : TaskLock
no_lock = record { holds = None; waits = None; since = 0 }

abbrev pub lock_in : List TaskLock → ℕ → TaskLock
lock_in locks t = slice_index_or locks (t - 1) no_lock

abbrev pub lock_of : PartState → ℕ → TaskLock
lock_of p t = lock_in p.locks t

-- ---- what moves and grants make of it

-- at the opening, of n tasks and m processors
abbrev pub opened : ℕ → ℕ → PartState
opened n m = record { kept = jobs.opened n m; locks = replicate n no_lock }

abbrev pub with_clock : ℕ → PartState → PartState
with_clock tick p = record p { kept = jobs.with_clock tick p.kept }

-- a task that did something at a semaphore at this clock, or was granted it
abbrev pub lock_after : ℕ → SemNo → Deed → TaskLock → TaskLock
lock_after clock s (Asks Granted) l = record { holds = Some s; waits = l.waits; since = clock }
lock_after clock s (Asks Queued) l = record { holds = l.holds; waits = Some s; since = l.since }
lock_after clock s (Gets n) l = record { holds = Some s; waits = None; since = clock }
lock_after clock s Frees l = record { holds = None; waits = l.waits; since = l.since }

abbrev pub locks_after : ℕ → TaskDeed → List TaskLock → List TaskLock
locks_after clock d locks = slice_set locks (d.task - 1) (lock_after clock (record { 0 = d.sem }) d.deed (lock_in locks d.task))

abbrev pub after_deed : Option TaskDeed → PartState → PartState
after_deed None p = p
after_deed (Some d) p = record p { locks = locks_after p.kept.clock d p.locks }

-- an act of the processor, answered so; no job ends by force, so whether its task holds nothing is not asked
abbrev pub after_act : List Task → ℕ → Act → Reply → PartState → PartState
after_act all q act reply p = record {
  kept = has_acted all q act reply true p.kept;
  locks = (after_deed (deed_of act reply (cpu_of p.kept q).runs) p).locks;
}

-- the grant is taken
abbrev pub after_take : Claim → PartState → PartState
after_take k p = after_deed (Some (record { task = k.task; sem = k.sem; deed = Gets k.no })) p

-- ---- that it is kept

abbrev pub sem_number : Option SemNo → Option ℕ
sem_number o = option_map (λ (s : SemNo). s.0) o

-- a task stands as the partition's past says
pub record IsLockAt (t : ℕ) (past : PartPast) (l : TaskLock) : Type 0 where
  pub holds : sem_number l.holds ≡ holding t past
  pub waits : sem_number l.waits ≡ awaiting t past
  pub since : l.since ≡ held_since t past

-- the state is of this past of the partition
pub record IsAt (g : Group) (past : PartPast) (p : PartState) : Type 0 where
  pub kept : IsKept g (moves past) p.kept
  pub count : length p.locks ≡ length g.setup.tasks
  pub locks : (t : ℕ) → has t (tasks g) ≡ true → IsLockAt t past (lock_of p t)
