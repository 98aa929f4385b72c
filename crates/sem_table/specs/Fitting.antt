-- The conditions of a request and of a release hold whenever the processor's act is accepted.
use Rattle.std.specs.Prelude.{◌≡◌, ◌<◌, ℕ, length, None}
use Rattle.rt_rules.specs.SemState.{Asks, Frees}
use Rattle.rt_model.specs.BaseKeys.{base_key}
use Rattle.rt_model.specs.Past.{sem_act}
use Rattle.rt_laws.specs.EveryPast.{EveryMove}
use Rattle.sem_table.specs.Conditions.{MayAsk, MayRelease}
use Rattle.sem_table.specs.SemTable.{SemTable}
use Rattle.sem_table.specs.Told.{awaits_of}
use Rattle.sem_table.specs.KeptSems.{KeepsSems}
use Rattle.sem_table.specs.KeptRows.{KeepsRows}

-- Whenever a Lock is accepted, a request with the task's base key is allowed.
abbrev pub AskFits : Type 0
AskFits = EveryMove (λ g e past. (w : SemTable) (t s : ℕ) → sem_act e ≡ Asks t s → KeepsSems g past w → MayAsk t (base_key g t past) s w)

-- Whenever an Unlock is accepted, a release is allowed.
abbrev pub ReleaseFits : Type 0
ReleaseFits = EveryMove (λ g e past. (w : SemTable) (t s : ℕ) → sem_act e ≡ Frees t s → KeepsSems g past w → MayRelease t s w)

-- the task and the semaphore stand in the table
pub record IsKnown (w : SemTable) (t s : ℕ) : Type 0 where
  pub task : t < length w.rows
  pub sem : s < length w.sems

-- They do, and a task that asks waits for nothing.
abbrev pub AskIsKnown : Type 0
AskIsKnown = EveryMove (λ g e past. (w : SemTable) (t s : ℕ) → sem_act e ≡ Asks t s → KeepsSems g past w → KeepsRows g past w →
    IsKnown w t s × (awaits_of w t ≡ None))

abbrev pub ReleaseIsKnown : Type 0
ReleaseIsKnown = EveryMove (λ g e past. (w : SemTable) (t s : ℕ) → sem_act e ≡ Frees t s → KeepsSems g past w → KeepsRows g past w →
    IsKnown w t s)
