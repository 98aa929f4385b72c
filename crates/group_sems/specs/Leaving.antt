-- Which tasks' waits and keys a move leaves.
use Rattle.std.specs.Prelude.{◌≡◌, ℕ, false, ◌==◌, ◌∷◌}
use Rattle.rt_rules.specs.Numbers.{is}
use Rattle.rt_rules.specs.SemState.{Asks, Frees, Neither}
use Rattle.rt_model.specs.EffectiveKeys.{effective_key}
use Rattle.rt_model.specs.Group.{Group}
use Rattle.rt_model.specs.Holders.{awaits}
use Rattle.rt_model.specs.Past.{Event, Past, sem_act}
use Rattle.rt_laws.specs.EveryPast.{EveryMove}
use Rattle.rt_changes.specs.HoldChanges.{IsServed}
use Rattle.rt_changes.specs.KeyChanges.{renews}
use Rattle.rt_changes.specs.Owners.{owner}

-- what the task waits for, and its key, stay
pub record IsLeft (g : Group) (u : ℕ) (e : Event) (past : Past) : Type 0 where
  pub awaited : awaits g u (e ∷ past) ≡ awaits g u past
  pub key : effective_key g u (e ∷ past) ≡ effective_key g u past

-- the task owns the semaphore neither before nor after
pub record OwnsNeither (g : Group) (u s : ℕ) (e : Event) (past : Past) : Type 0 where
  pub before : is u (owner g s past) ≡ false
  pub after : is u (owner g s (e ∷ past)) ≡ false

-- A move that does nothing at a semaphore leaves each task whose job it does not renew.
abbrev pub QuietLeaves : Type 0
QuietLeaves = EveryMove (λ g e past. (u : ℕ) → sem_act e ≡ Neither → renews u e ≡ false → IsLeft g u e past)

-- An accepted Lock leaves each other task but the owners.
abbrev pub LockLeaves : Type 0
LockLeaves = EveryMove (λ g e past. (t s u : ℕ) → sem_act e ≡ Asks t s → u == t ≡ false → OwnsNeither g u s e past → IsLeft g u e past)

-- An accepted Unlock leaves each other task but the owners and the one that is served.
abbrev pub UnlockLeaves : Type 0
UnlockLeaves = EveryMove (λ g e past. (t s u : ℕ) → sem_act e ≡ Frees t s → u == t ≡ false → OwnsNeither g u s e past
    → ((r : ℕ) → IsServed g u r e past → ⊥) → IsLeft g u e past)
