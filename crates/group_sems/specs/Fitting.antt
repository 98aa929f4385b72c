-- What a lock and an unlock rest on holds whenever the processor's act is accepted.
use Rattle.std.specs.Prelude.{◌≡◌, ℕ}
use Rattle.rt_rules.specs.SemState.{Asks, Frees}
use Rattle.rt_model.specs.BaseKeys.{base_key}
use Rattle.rt_model.specs.Past.{now, sem_act}
use Rattle.rt_laws.specs.EveryPast.{EveryMove}
use Rattle.group_sems.specs.GroupSems.{GroupSems}
use Rattle.group_sems.specs.Locking.{CanLock, CanUnlock}
use Rattle.group_sems.specs.Kept.{KeepsGroupSems}

abbrev pub LockFits : Type 0
LockFits = EveryMove (λ g e past. (v : GroupSems) (t s : ℕ) → sem_act e ≡ Asks t s → KeepsGroupSems g past v
    → CanLock g.setup t (base_key g t past) s v)

abbrev pub UnlockFits : Type 0
UnlockFits = EveryMove (λ g e past. (v : GroupSems) (t s : ℕ) → sem_act e ≡ Frees t s → KeepsGroupSems g past v
    → CanUnlock g.setup (now past) t s v)
