-- The semaphores and keys that are opened are those of the opening, and each call makes of them what the processor's act does.
use Rattle.std.specs.Prelude.{◌≡◌, ℕ, ◌+◌, false, List, [], ◌∷◌, length, Option, None, Some, replicate, slice_set}
use Rattle.rt_task.specs.Validity.{IsValid}
use Rattle.rt_rules.specs.declared.Key.{Key}
use Rattle.rt_rules.specs.Numbers.{has}
use Rattle.rt_rules.specs.SemState.{Asks, Frees, Neither}
use Rattle.rt_model.specs.BaseKeys.{base_key}
use Rattle.rt_model.specs.Group.{Group, tasks}
use Rattle.rt_model.specs.Past.{now, sem_act}
use Rattle.rt_laws.specs.EveryPast.{EveryMove}
use Rattle.rt_changes.specs.KeyChanges.{renews}
use Rattle.prio_inherit.specs.Waits.{Waits}
use Rattle.sem_table.specs.Opened.{IsOpened}
use Rattle.mpcp_ceilings.specs.Ceilings.{AreCeilings}
use Rattle.group_sems.specs.GroupSems.{GroupSems}
use Rattle.group_sems.specs.Locking.{after_lock, after_unlock}
use Rattle.group_sems.specs.Kept.{KeepsBases, KeepsLocks}

-- the base keys of these tasks are told
abbrev pub rebased : (ℕ → Key) → List ℕ → List (Option Key) → List (Option Key)
rebased key [] bases = bases
rebased key (u ∷ us) bases = rebased key us (slice_set bases u (Some (key u)))

-- nothing was told
abbrev pub untold : ℕ → Waits
untold room = record { bases = replicate room None; nexts = replicate room None; boosts = replicate room None }

-- At first nobody holds, waits or is boosted.
abbrev pub OpeningIsKept : Type 0
OpeningIsKept = (g : Group) (v : GroupSems) → IsValid g.setup → IsOpened g v.table → AreCeilings g v.ceilings
    → v.waits.nexts ≡ replicate (length g.setup.tasks + 1) None → v.waits.boosts ≡ replicate (length g.setup.tasks + 1) None
    → KeepsLocks g [] v

-- Once the base keys of all tasks were told they are kept.
abbrev pub BasesAreTold : Type 0
BasesAreTold = (g : Group) → IsValid g.setup
    → KeepsBases g [] (rebased (λ t. base_key g t []) (tasks g) (replicate (length g.setup.tasks + 1) None))

-- A move leaves the base keys but of the tasks whose jobs it renews.
abbrev pub BasesAreKept : Type 0
BasesAreKept = EveryMove (λ g e past. (us : List ℕ) (bases : List (Option Key)) → ((t : ℕ) → has t us ≡ false → renews t e ≡ false)
    → KeepsBases g past bases → KeepsBases g (e ∷ past) (rebased (λ t. base_key g t (e ∷ past)) us bases))

-- A move that does nothing at a semaphore leaves all else.
abbrev pub QuietIsKept : Type 0
QuietIsKept = EveryMove (λ g e past. (v : GroupSems) → sem_act e ≡ Neither → KeepsLocks g past v → KeepsLocks g (e ∷ past) v)

-- A lock with the task's base key at this clock makes of it what an accepted Lock does.
abbrev pub LockIsKept : Type 0
LockIsKept = EveryMove (λ g e past. (v : GroupSems) (t s : ℕ) → sem_act e ≡ Asks t s → KeepsLocks g past v
    → KeepsLocks g (e ∷ past) (after_lock g.setup (now past) t (base_key g t past) s v))

-- An unlock at this clock makes of it what an accepted Unlock does.
abbrev pub UnlockIsKept : Type 0
UnlockIsKept = EveryMove (λ g e past. (v : GroupSems) (t s : ℕ) → sem_act e ≡ Frees t s → KeepsLocks g past v
    → KeepsLocks g (e ∷ past) (after_unlock g.setup (now past) t s v))
