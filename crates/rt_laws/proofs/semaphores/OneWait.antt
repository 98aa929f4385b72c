-- A task waits for at most one semaphore.
use Rattle.std.proofs.Common.{ap, false, inl, inr, refl, true, ℕ, ◌∷◌, ◌≡◌, ◌⊎◌}
use Rattle.std.specs.Prelude.{None, Option, Some}
use Rattle.rt_rules.specs.Numbers.{has}
use Rattle.rt_rules.specs.SemState.{Asks}
use Rattle.rt_model.specs.Answers.{is_granted}
use Rattle.rt_model.specs.Group.{Group, protocol, sems}
use Rattle.rt_model.specs.Holders.{awaits, sem_state}
use Rattle.rt_model.specs.Reachable.{IsReachable}
use Rattle.rt_model.specs.Past.{Event, Past, sem_act}
use Rattle.rt_rules.proofs.BoolLaws.{clash}
use Rattle.rt_laws.proofs.semaphores.Asked.{Asked, asked}
use Rattle.rt_laws.proofs.Moves.{by_moves}
use Rattle.rt_laws.proofs.Rules.{MeetsRules}
use Rattle.rt_laws.proofs.semaphores.Waiting.{awaits-waits, nobody-waits, waiting-step, waits-none}

-- a task waits for at most one semaphore
abbrev pub WaitsOnce : Group → Past → Type 0
WaitsOnce g past = (t s r : ℕ) → has s (sems g) ≡ true → has r (sems g) ≡ true → has t (sem_state g s past).waiting ≡ true → has t (sem_state g r past).waiting ≡ true → s ≡ r

waits_once-step : (g : Group) → MeetsRules g → (e : Event) (past : Past) → Asked g e past → WaitsOnce g past → WaitsOnce g (e ∷ past)
waits_once-step g rules e past asks before t s r hs hr h k = split (waiting-step g rules t s e past h) (waiting-step g rules t r e past k)
  where
    split : (has t (sem_state g s past).waiting ≡ true) ⊎ (sem_act e ≡ Asks t s) × (is_granted g (protocol g s) s t past ≡ false) → (has t (sem_state g r past).waiting ≡ true) ⊎ (sem_act e ≡ Asks t r) × (is_granted g (protocol g r) r t past ≡ false) → s ≡ r
    split (inl m) (inl n) = before t s r hs hr m n
    split (inl m) (inr n) = absurd (clash _ m ((asks t r n.0).waits_none s hs))
    split (inr m) (inl n) = absurd (clash _ n ((asks t s m.0).waits_none r hr))
    split (inr m) (inr n) = let a : sem_act e ≡ Asks t s = m.0 in let b : sem_act e ≡ Asks t r = n.0 in cc

-- so it is after every move
pub waits_once : (g : Group) → MeetsRules g → {past : Past} → IsReachable g past → WaitsOnce g past
waits_once g rules made = by_moves g (WaitsOnce g) (λ t s r hs hr h k. absurd (clash _ h (nobody-waits g t s))) (λ past e made move before. waits_once-step g rules e past (asked g rules made move) before) made

-- the semaphore for which a task waits
pub awaits-is : (g : Group) (t s : ℕ) (past : Past) → WaitsOnce g past → has s (sems g) ≡ true → has t (sem_state g s past).waiting ≡ true → awaits g t past ≡ Some s
awaits-is g t s past once there h = by_case (awaits g t past) refl
  where
    by_case : (o : Option ℕ) → awaits g t past ≡ o → o ≡ Some s
    by_case None e = absurd (clash _ h (waits-none g t past e s there))
    by_case (Some r) e = let q = awaits-waits g t r past e in ap {B = Option ℕ} (λ n. Some n) (once t r s q.0 there q.1 h)
