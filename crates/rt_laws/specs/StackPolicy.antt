-- SRP (Baker, Real-Time Systems, 1991): a task that asks for a semaphore finds it free, and whoever holds is under way.
use Rattle.std.specs.Prelude.{◌≡◌, ℕ, true, [], ◌∷◌, None, Some, ⊤}
use Rattle.rt_rules.specs.Pcp.{of_sem}
use Rattle.rt_rules.specs.SemState.{Asks}
use Rattle.rt_model.specs.Group.{Group, protocol}
use Rattle.rt_model.specs.Holders.{holder, sem_state}
use Rattle.rt_model.specs.Past.{Past, sem_act}
use Rattle.rt_model.specs.StackPolicy.{is_srp, srp}
use Rattle.rt_model.specs.UnderWay.{under_way}
use Rattle.rt_laws.specs.EveryPast.{EveryPast, EveryMove}

-- nobody holds a semaphore, in any cluster
pub record IsFree (g : Group) (s : ℕ) (past : Past) : Type 0 where
  pub unheld : holder g s past ≡ None
  pub nowhere : (c : ℕ) → of_sem s (srp g c past) ≡ []

-- At each accepted Lock of an SRP semaphore nobody holds it.
abbrev pub SrpIsFreeAtLock : Type 0
SrpIsFreeAtLock = EveryMove (λ g e past. (t s : ℕ) → is_srp (protocol g s) ≡ true → sem_act e ≡ Asks t s → IsFree g s past)

-- Nobody waits for an SRP semaphore.
abbrev pub NobodyWaitsForSrp : Type 0
NobodyWaitsForSrp = EveryPast (λ g past. (s : ℕ) → is_srp (protocol g s) ≡ true → (sem_state g s past).waiting ≡ [])

-- The holder of an SRP semaphore is under way.
abbrev pub SrpHolderIsUnderWay : Type 0
SrpHolderIsUnderWay =
    EveryPast (λ g past. (t s : ℕ) → is_srp (protocol g s) ≡ true → holder g s past ≡ Some t → under_way t past ≡ true)

-- each Lock of an SRP semaphore that led to a past found it free
abbrev pub WereFree : Group → Past → Type 0
WereFree g [] = ⊤
WereFree g (e ∷ past) = ((t s : ℕ) → is_srp (protocol g s) ≡ true → sem_act e ≡ Asks t s → IsFree g s past) × WereFree g past

-- so it did, nobody waits for one, and whoever holds one is under way
pub record FollowsStack (g : Group) (past : Past) : Type 0 where
  pub were_free : WereFree g past
  pub nobody_waits : (s : ℕ) → is_srp (protocol g s) ≡ true → (sem_state g s past).waiting ≡ []
  pub on_the_way : (t s : ℕ) → is_srp (protocol g s) ≡ true → holder g s past ≡ Some t → under_way t past ≡ true

-- A task that is under way never finds an SRP semaphore held.
abbrev pub StackIsFollowed : Type 0
StackIsFollowed = EveryPast FollowsStack
