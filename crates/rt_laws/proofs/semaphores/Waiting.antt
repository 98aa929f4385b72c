-- A task that waits after a move waited before it, or asks in it and is not granted: for the semaphores of a setup.
use Rattle.std.proofs.Common.{[], false, inl, inr, refl, true, ℕ, ◌∷◌, ◌≡◌, ◌⊎◌}
use Rattle.std.specs.Prelude.{None, Option, Some, is_none}
use Rattle.rt_task.specs.declared.Protocol.TheVariants.{Fmlp, Mpcp, Omlp, Pcp, Srp}
use Rattle.rt_task.specs.declared.Protocol.{Protocol}
use Rattle.rt_rules.specs.Numbers.{has}
use Rattle.rt_rules.specs.Pcp.{of_sem, passes}
use Rattle.rt_rules.specs.SemState.{Asks, SemAct}
use Rattle.rt_model.specs.Answers.{is_granted}
use Rattle.rt_model.specs.BaseKeys.{above}
use Rattle.rt_model.specs.Ceilings.{above_ceiling, at_cluster, pcp}
use Rattle.rt_model.specs.Group.{Group, cpus, home, protocol, sems}
use Rattle.rt_model.specs.Holders.{awaits, holder, sem_state, sem_state_by}
use Rattle.rt_model.specs.Past.{Event, Past, sem_act}
use Rattle.rt_model.specs.Semaphores.{at_sem, cluster_of, fmlp, mpcp, omlp}
use Rattle.rt_rules.proofs.FmlpLaws.{fmlp-waits}
use Rattle.rt_rules.proofs.MemberLaws.{find-none, find-some, none-find}
use Rattle.rt_rules.proofs.MpcpLaws.{mpcp-waits}
use Rattle.rt_rules.proofs.OmlpLaws.{omlp-waits}
use Rattle.rt_rules.proofs.PairLaws.{has-of_sem, has_pair}
use Rattle.rt_rules.proofs.PcpLaws.{pcp-waits}
use Rattle.rt_rules.proofs.SemActLaws.{AsksSome}
use Rattle.rt_laws.proofs.semaphores.AtSem.{at_cluster-asks, at_sem-asks}
use Rattle.rt_laws.proofs.GroupLaws.{has_room}
use Rattle.rt_laws.proofs.Rules.{MeetsRules}

-- who waits after an event waited before it, or asks in it and is not granted
pub waiting-step : (g : Group) → MeetsRules g → (t s : ℕ) (e : Event) (past : Past) → has t (sem_state g s (e ∷ past)).waiting ≡ true → (has t (sem_state g s past).waiting ≡ true) ⊎ (sem_act e ≡ Asks t s) × (is_granted g (protocol g s) s t past ≡ false)
unfolding sem_state sem_state_by fmlp omlp mpcp pcp is_granted holder
waiting-step g rules t s e past h = by_protocol (protocol g s) refl h
  where
    none_of : (p : Protocol) → protocol g s ≡ p → (sem_state g s past).holder ≡ (sem_state_by g p s past).holder
    none_of p k = rw k

    act : SemAct
    act = at_sem s (sem_act e)

    -- it asks for this semaphore, which somebody holds
    asked : (p : Protocol) → protocol g s ≡ p → (o : Option ℕ) → (sem_state_by g p s past).holder ≡ o → {A : Type 0} → A ⊎ AsksSome t act × (is_none o ≡ false) → A ⊎ (sem_act e ≡ Asks t s) × (is_none (holder g s past) ≡ false)
    asked p r o q (inl m) = inl m
    asked p r o q (inr m) = inr (at_sem-asks s t m.0.0 (sem_act e) m.0.1, rw (none_of p r, q) m.1)

    by_protocol : (p : Protocol) → protocol g s ≡ p → has t (sem_state_by g p s (e ∷ past)).waiting ≡ true → (has t (sem_state_by g p s past).waiting ≡ true) ⊎ (sem_act e ≡ Asks t s) × (is_granted g p s t past ≡ false)
    by_protocol Fmlp r k = asked Fmlp r _ refl (fmlp-waits t act (fmlp g s past) k)
    by_protocol Omlp r k = asked Omlp r _ refl (omlp-waits (cpus g (cluster_of g s)) (above g past) t act (omlp g s past) (has_room g rules s) k)
    by_protocol Mpcp r k = asked Mpcp r _ refl (mpcp-waits (above g past) t act (mpcp g s past) k)
    by_protocol Srp r k = cc
    by_protocol Pcp r k = join (pcp-waits (above g []) (above_ceiling g) t s (at_cluster g (cluster_of g s) (sem_act e)) (pcp g (cluster_of g s) past) (rw has-of_sem at k))
      where
        join : (has_pair t s (pcp g (cluster_of g s) past).waiting ≡ true) ⊎ (at_cluster g (cluster_of g s) (sem_act e) ≡ Asks t s) × (passes (above_ceiling g) (pcp g (cluster_of g s) past).held t ≡ false) → (has t (of_sem s (pcp g (cluster_of g s) past).waiting) ≡ true) ⊎ (sem_act e ≡ Asks t s) × (passes (above_ceiling g) (pcp g (home g t) past).held t ≡ false)
        join (inl m) = inl (rw has-of_sem m)
        join (inr m) = let q = at_cluster-asks g (cluster_of g s) t s (sem_act e) m.0 in inr (q.0, rw q.1 m.1)

-- who waits for no semaphore, and who waits for one
pub waits-none : (g : Group) (t : ℕ) (past : Past) → awaits g t past ≡ None → (s : ℕ) → has s (sems g) ≡ true → has t (sem_state g s past).waiting ≡ false
unfolding awaits
waits-none g t past h s there = find-none (λ r. has t (sem_state g r past).waiting) (sems g) s h there

-- who is among the waiting of no semaphore awaits none
pub none-waits : (g : Group) (t : ℕ) (past : Past) → ((s : ℕ) → has s (sems g) ≡ true → has t (sem_state g s past).waiting ≡ false) → awaits g t past ≡ None
unfolding awaits
none-waits g t past h = none-find (λ r. has t (sem_state g r past).waiting) (sems g) h

-- who awaits a semaphore is among its waiting
pub awaits-waits : (g : Group) (t s : ℕ) (past : Past) → awaits g t past ≡ Some s → (has s (sems g) ≡ true) × (has t (sem_state g s past).waiting ≡ true)
unfolding awaits
awaits-waits g t s past h = find-some (λ r. has t (sem_state g r past).waiting) (sems g) s h

-- at the opening nobody waits
pub nobody-waits : (g : Group) (t s : ℕ) → has t (sem_state g s []).waiting ≡ false
unfolding sem_state sem_state_by fmlp omlp mpcp pcp
nobody-waits g t s = by_protocol (protocol g s)
  where
    by_protocol : (p : Protocol) → has t (sem_state_by g p s []).waiting ≡ false
    by_protocol Fmlp = refl
    by_protocol Omlp = refl
    by_protocol Mpcp = refl
    by_protocol Pcp = refl
    by_protocol Srp = refl

-- nobody waits for an SRP semaphore
pub srp-waiting : (g : Group) (s : ℕ) (past : Past) → protocol g s ≡ Srp → (sem_state g s past).waiting ≡ []
unfolding sem_state sem_state_by
srp-waiting g s past p = rw p
