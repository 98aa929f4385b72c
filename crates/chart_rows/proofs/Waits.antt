-- A task that waits for a semaphore after a move waited before it, or asks for one in it: in any group.
use Rattle.std.proofs.Common.{◌≡◌, ℕ, zero, suc, ◌≤◌, ◌⊎◌, inl, inr, Bool, true, false, [], ◌∷◌, ◌++◌, length, refl, arith, cond}
use Rattle.std.specs.Prelude.{nat_lt, None}
use Rattle.std.proofs.lemmas.Bool.Decides.{nat_tests}
use Rattle.rt_task.specs.declared.Protocol.{Protocol}
use Rattle.rt_task.specs.declared.Protocol.TheVariants.{Fmlp, Mpcp, Omlp, Pcp, Srp}
use Rattle.rt_rules.specs.Numbers.{has, rest}
use Rattle.rt_rules.specs.Omlp.{OmlpState, omlp_after, omlp_sem_state}
use Rattle.rt_rules.specs.Pcp.{of_sem, passes}
use Rattle.rt_rules.specs.SemState.{Asks, Frees, Neither, SemAct}
use Rattle.rt_rules.proofs.BoolLaws.{clash, or_true, unless}
use Rattle.rt_rules.proofs.FmlpLaws.{fmlp-waits}
use Rattle.rt_rules.proofs.MemberLaws.{has-append, has-appended, has-one}
use Rattle.rt_rules.proofs.MpcpLaws.{mpcp-waits}
use Rattle.rt_rules.proofs.OmlpLaws.{omlp-waits}
use Rattle.rt_rules.proofs.PairLaws.{has-of_sem, has_pair}
use Rattle.rt_rules.proofs.PcpLaws.{pcp-waits}
use Rattle.rt_rules.proofs.SemActLaws.{AsksSome, asks-some}
use Rattle.rt_model.specs.BaseKeys.{above}
use Rattle.rt_model.specs.Ceilings.{above_ceiling, at_cluster, pcp}
use Rattle.rt_model.specs.Group.{Group, cpus, protocol, sems}
use Rattle.rt_model.specs.Holders.{awaits, sem_state, sem_state_by}
use Rattle.rt_model.specs.Past.{Event, Past, sem_act}
use Rattle.rt_model.specs.Semaphores.{at_sem, cluster_of, fmlp, mpcp, omlp}
use Rattle.rt_laws.proofs.semaphores.AtSem.{at_cluster-asks, at_sem-asks}
use Rattle.rt_laws.proofs.semaphores.Waiting.{none-waits, waits-none}

-- ---- OMLP, also where the list has no room at all

only-asks : (A B C : Type 0) → A ⊎ (B × C) → A ⊎ B
only-asks A B C (inl m) = inl m
only-asks A B C (inr m) = inr m.0

queued : (t u s : ℕ) (l : OmlpState) → has t (rest l.fifo ++ (l.queue ++ u ∷ [])) ≡ true → (has t (rest l.fifo ++ l.queue) ≡ true) ⊎ AsksSome t (Asks u s)
queued t u s l h = join (has-appended t (rest l.fifo) (l.queue ++ u ∷ []) h)
  where
    last : (has t l.queue ≡ true) ⊎ (has t (u ∷ []) ≡ true) → (has t (rest l.fifo ++ l.queue) ≡ true) ⊎ AsksSome t (Asks u s)
    last (inl m) = inl (rw (has-append, m) (or_true (has t (rest l.fifo))))
    last (inr m) = inr (asks-some t u s (has-one t u m))

    join : (has t (rest l.fifo) ≡ true) ⊎ (has t (l.queue ++ u ∷ []) ≡ true) → (has t (rest l.fifo ++ l.queue) ≡ true) ⊎ AsksSome t (Asks u s)
    join (inl m) = inl (rw (has-append, m))
    join (inr m) = last (has-appended t l.queue (u ∷ []) m)

omlp-before : (m : ℕ) (above : ℕ → ℕ → Bool) (t : ℕ) (x : SemAct) (l : OmlpState) → has t (omlp_sem_state (omlp_after m above x l)).waiting ≡ true → (has t (omlp_sem_state l).waiting ≡ true) ⊎ AsksSome t x
omlp-before zero above t (Asks u s) l h = by_room (nat_lt (length l.fifo) 0) refl h
  where
    by_room : (b : Bool) → nat_lt (length l.fifo) 0 ≡ b → has t (omlp_sem_state (cond b (record l { fifo = l.fifo ++ u ∷ [] }) (record l { queue = l.queue ++ u ∷ [] }))).waiting ≡ true → (has t (rest l.fifo ++ l.queue) ≡ true) ⊎ AsksSome t (Asks u s)
    by_room true low k = absurd (grind (arith, nat_tests, low))
    by_room false low k = queued t u s l k
omlp-before zero above t (Frees u s) l h = let one : 1 ≤ 1 = omega arith in only-asks _ _ _ (omlp-waits 1 above t (Frees u s) l one h)
omlp-before zero above t Neither l h = inl h
omlp-before (suc m) above t x l h = let room : 1 ≤ suc m = omega arith in only-asks _ _ _ (omlp-waits (suc m) above t x l room h)

module _ (g : Group) (t : ℕ) (e : Event) (past : Past) where
  waits-before : (s : ℕ) → has t (sem_state g s (e ∷ past)).waiting ≡ true → (has t (sem_state g s past).waiting ≡ true) ⊎ (sem_act e ≡ Asks t s)
  unfolding sem_state sem_state_by fmlp omlp mpcp pcp
  waits-before s h = by_protocol (protocol g s) h
    where
      act : SemAct
      act = at_sem s (sem_act e)

      asked : (A : Type 0) → A ⊎ AsksSome t act → A ⊎ (sem_act e ≡ Asks t s)
      asked A (inl m) = inl m
      asked A (inr m) = inr (at_sem-asks s t m.0 (sem_act e) m.1)

      by_protocol : (p : Protocol) → has t (sem_state_by g p s (e ∷ past)).waiting ≡ true → (has t (sem_state_by g p s past).waiting ≡ true) ⊎ (sem_act e ≡ Asks t s)
      by_protocol Fmlp k = asked _ (only-asks _ _ _ (fmlp-waits t act (fmlp g s past) k))
      by_protocol Omlp k = asked _ (omlp-before (cpus g (cluster_of g s)) (above g past) t act (omlp g s past) k)
      by_protocol Mpcp k = asked _ (only-asks _ _ _ (mpcp-waits (above g past) t act (mpcp g s past) k))
      by_protocol Srp k = cc
      by_protocol Pcp k = join (pcp-waits (above g []) (above_ceiling g) t s (at_cluster g (cluster_of g s) (sem_act e)) (pcp g (cluster_of g s) past) (rw has-of_sem at k))
        where
          join : (has_pair t s (pcp g (cluster_of g s) past).waiting ≡ true) ⊎ (at_cluster g (cluster_of g s) (sem_act e) ≡ Asks t s) × (passes (above_ceiling g) (pcp g (cluster_of g s) past).held t ≡ false) → (has t (of_sem s (pcp g (cluster_of g s) past).waiting) ≡ true) ⊎ (sem_act e ≡ Asks t s)
          join (inl m) = inl (rw has-of_sem m)
          join (inr m) = inr (at_cluster-asks g (cluster_of g s) t s (sem_act e) m.0).0

  -- who does not wait and does not ask does not come to wait
  pub stays-free : ((s : ℕ) → sem_act e ≡ Asks t s → ⊥) → awaits g t past ≡ None → awaits g t (e ∷ past) ≡ None
  stays-free asks_not h = none-waits g t (e ∷ past) (λ s there. unless _ (λ k. split s there (waits-before s k)))
    where
      split : (s : ℕ) → has s (sems g) ≡ true → (has t (sem_state g s past).waiting ≡ true) ⊎ (sem_act e ≡ Asks t s) → ⊥
      split s there (inl m) = clash _ m (waits-none g t past h s there)
      split s there (inr m) = asks_not s m
