-- A table that is opened keeps what the rules say, and each call keeps it so where the processor's act is accepted.
use Rattle.std.specs.Prelude.{◌≡◌, ℕ, ◌∷◌, []}
use Rattle.rt_task.specs.Validity.{IsValid}
use Rattle.rt_rules.specs.SemState.{Asks, Frees, Neither}
use Rattle.rt_model.specs.BaseKeys.{base_key}
use Rattle.rt_model.specs.Group.{Group}
use Rattle.rt_model.specs.Past.{sem_act}
use Rattle.rt_laws.specs.EveryPast.{EveryMove}
use Rattle.sem_table.specs.Asked.{after_ask}
use Rattle.sem_table.specs.Opened.{IsOpened}
use Rattle.sem_table.specs.Released.{after_release}
use Rattle.sem_table.specs.SemTable.{SemTable}
use Rattle.sem_table.specs.KeptSems.{KeepsSems}
use Rattle.sem_table.specs.KeptRows.{KeepsRows}

-- ---- the semaphores

abbrev pub NewKeeps : Type 0
NewKeeps = (g : Group) (w : SemTable) → IsValid g.setup → IsOpened g w → KeepsSems g [] w

-- A move that does nothing at a semaphore leaves them.
abbrev pub QuietKeeps : Type 0
QuietKeeps = EveryMove (λ g e past. (w : SemTable) → sem_act e ≡ Neither → KeepsSems g past w → KeepsSems g (e ∷ past) w)

-- A request with the task's base key makes of them what an accepted Lock does.
abbrev pub AskKeeps : Type 0
AskKeeps = EveryMove (λ g e past. (w : SemTable) (t s : ℕ) → sem_act e ≡ Asks t s → KeepsSems g past w →
    KeepsSems g (e ∷ past) (after_ask t (base_key g t past) s w))

-- A release makes of them what an accepted Unlock does.
abbrev pub ReleaseKeeps : Type 0
ReleaseKeeps = EveryMove (λ g e past. (w : SemTable) (t s : ℕ) → sem_act e ≡ Frees t s → KeepsSems g past w →
    KeepsSems g (e ∷ past) (after_release t s w))

-- ---- what tasks hold and wait for

abbrev pub NewRows : Type 0
NewRows = (g : Group) (w : SemTable) → IsValid g.setup → IsOpened g w → KeepsRows g [] w

abbrev pub QuietRows : Type 0
QuietRows = EveryMove (λ g e past. (w : SemTable) → sem_act e ≡ Neither → KeepsRows g past w → KeepsRows g (e ∷ past) w)

abbrev pub AskRows : Type 0
AskRows = EveryMove (λ g e past. (w : SemTable) (t s : ℕ) → sem_act e ≡ Asks t s → KeepsSems g past w → KeepsRows g past w →
    KeepsRows g (e ∷ past) (after_ask t (base_key g t past) s w))

abbrev pub ReleaseRows : Type 0
ReleaseRows = EveryMove (λ g e past. (w : SemTable) (t s : ℕ) → sem_act e ≡ Frees t s → KeepsSems g past w → KeepsRows g past w →
    KeepsRows g (e ∷ past) (after_release t s w))
