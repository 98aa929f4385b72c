-- Who holds or waits: it did before the move, or asks in it; and who holds goes on until it frees.
use Rattle.std.proofs.Common.{Bool, List, [], false, inl, inr, refl, sym, true, ℕ, ◌++◌, ◌∙◌, ◌∷◌, ◌≡◌, ◌⊎◌}
use Rattle.rt_task.specs.declared.Protocol.TheVariants.{Fmlp, Mpcp, Omlp, Pcp, Srp}
use Rattle.rt_task.specs.declared.Protocol.{Protocol}
use Rattle.rt_rules.specs.Numbers.{first, has, is, rest}
use Rattle.rt_rules.specs.Pcp.{of_sem}
use Rattle.rt_rules.specs.SemState.{Asks, Frees, SemAct}
use Rattle.rt_model.specs.BaseKeys.{above}
use Rattle.rt_model.specs.Ceilings.{above_ceiling, at_cluster, pcp}
use Rattle.rt_model.specs.Group.{Group, cpus, protocol}
use Rattle.rt_model.specs.Holders.{holder, sem_state, sem_state_by}
use Rattle.rt_model.specs.Past.{Event, Past, sem_act}
use Rattle.rt_model.specs.Semaphores.{at_sem, cluster_of, fmlp, mpcp, omlp}
use Rattle.rt_model.specs.StackPolicy.{srp, srp_at}
use Rattle.rt_rules.proofs.BoolLaws.{either, or_true}
use Rattle.rt_rules.proofs.FmlpLaws.{fmlp-holds, fmlp-stands}
use Rattle.rt_rules.proofs.MemberLaws.{has-append, has-appended, has-first, has-rest, has-split}
use Rattle.rt_rules.proofs.MpcpLaws.{mpcp-holds, mpcp-stands, stands_at}
use Rattle.rt_rules.proofs.OmlpLaws.{members, omlp-holds, omlp-stands}
use Rattle.rt_rules.proofs.PairLaws.{has-of_sem, has_pair}
use Rattle.rt_rules.proofs.PcpLaws.{pcp-holds, pcp-stands, stands_for}
use Rattle.rt_rules.proofs.SrpLaws.{IsHeldOnce, first-srp, srp-first, srp-held, srp-holds}
use Rattle.rt_rules.proofs.SemActLaws.{AsksSome, FreesSome}
use Rattle.rt_laws.proofs.semaphores.Asked.{Freed}
use Rattle.rt_laws.proofs.semaphores.AtSem.{at_cluster-asks, at_cluster-frees, at_sem-asks, at_sem-frees, srp_at-asks, srp_at-frees}
use Rattle.rt_laws.proofs.pcp.PcpState.{IsPcpKept, first-pcp, pcp-first}

-- a task holds a semaphore of a protocol or waits for it
unfoldable pub engaged_by : (g : Group) → Protocol → ℕ → ℕ → Past → Bool
engaged_by g Fmlp t s past = has t (fmlp g s past)
engaged_by g Omlp t s past = has t (members (omlp g s past))
engaged_by g Mpcp t s past = stands_at t (mpcp g s past)
engaged_by g Srp t s past = has_pair t s (srp g (cluster_of g s) past)
engaged_by g Pcp t s past = stands_for t s (pcp g (cluster_of g s) past)

-- a task holds a semaphore or waits for it
unfoldable pub engaged : (g : Group) → ℕ → ℕ → Past → Bool
engaged g t s past = engaged_by g (protocol g s) t s past

-- who is engaged after an event was before it, or asks in it
pub engaged-step : (g : Group) (t s : ℕ) (e : Event) (past : Past) → engaged g t s (e ∷ past) ≡ true → (engaged g t s past ≡ true) ⊎ (sem_act e ≡ Asks t s)
unfolding engaged engaged_by fmlp omlp mpcp pcp srp
engaged-step g t s e past h = by_protocol (protocol g s) h
  where
    act : SemAct
    act = at_sem s (sem_act e)

    asked : {A : Type 0} → A ⊎ AsksSome t act → A ⊎ (sem_act e ≡ Asks t s)
    asked (inl m) = inl m
    asked (inr m) = inr (at_sem-asks s t m.0 (sem_act e) m.1)

    by_protocol : (p : Protocol) → engaged_by g p t s (e ∷ past) ≡ true → (engaged_by g p t s past ≡ true) ⊎ (sem_act e ≡ Asks t s)
    by_protocol Fmlp k = asked (fmlp-stands t act (fmlp g s past) k)
    by_protocol Omlp k = asked (omlp-stands (cpus g (cluster_of g s)) (above g past) t act (omlp g s past) k)
    by_protocol Mpcp k = asked (mpcp-stands (above g past) t act (mpcp g s past) k)
    by_protocol Srp k = split_srp (srp-held t s (srp_at g (cluster_of g s) (sem_act e)) (srp g (cluster_of g s) past) k)
      where
        split_srp : (has_pair t s (srp g (cluster_of g s) past) ≡ true) ⊎ (srp_at g (cluster_of g s) (sem_act e) ≡ Asks t s) → (has_pair t s (srp g (cluster_of g s) past) ≡ true) ⊎ (sem_act e ≡ Asks t s)
        split_srp (inl m) = inl m
        split_srp (inr m) = inr (srp_at-asks g (cluster_of g s) t s (sem_act e) m).0
    by_protocol Pcp k = split (pcp-stands (above g []) (above_ceiling g) t s (at_cluster g (cluster_of g s) (sem_act e)) (pcp g (cluster_of g s) past) k)
      where
        split : (stands_for t s (pcp g (cluster_of g s) past) ≡ true) ⊎ (at_cluster g (cluster_of g s) (sem_act e) ≡ Asks t s) → (stands_for t s (pcp g (cluster_of g s) past) ≡ true) ⊎ (sem_act e ≡ Asks t s)
        split (inl m) = inl m
        split (inr m) = inr (at_cluster-asks g (cluster_of g s) t s (sem_act e) m).0

-- at the opening nobody is engaged
pub nobody-engaged : (g : Group) (t s : ℕ) → engaged g t s [] ≡ false
unfolding engaged engaged_by fmlp omlp mpcp pcp srp
nobody-engaged g t s = by_protocol (protocol g s)
  where
    by_protocol : (p : Protocol) → engaged_by g p t s [] ≡ false
    by_protocol Fmlp = refl
    by_protocol Omlp = refl
    by_protocol Mpcp = refl
    by_protocol Pcp = refl
    by_protocol Srp = refl

-- what PCP and SRP keep of a cluster
pub record IsKept (g : Group) (c : ℕ) (past : Past) : Type 0 where
  pub of_pcp : IsPcpKept g c (pcp g c past)
  pub of_srp : IsHeldOnce (srp g c past)

-- who engaged holds or waits, and the other way round
pub engaged-cases : (g : Group) (t s : ℕ) (past : Past) → IsKept g (cluster_of g s) past → engaged g t s past ≡ true → (is t (holder g s past) ≡ true) ⊎ (has t (sem_state g s past).waiting ≡ true)
unfolding engaged engaged_by holder sem_state sem_state_by
engaged-cases g t s past kept h = by_protocol (protocol g s) h
  where
    omlp_split : (f q : List ℕ) → (has t f ≡ true) ⊎ (has t q ≡ true) → (is t (first f) ≡ true) ⊎ (has t (rest f ++ q) ≡ true)
    omlp_split f q (inr m) = inr (rw (has-append, m) (or_true (has t (rest f))))
    omlp_split f q (inl m) = deeper (has-split t f m)
      where
        deeper : (is t (first f) ≡ true) ⊎ (has t (rest f) ≡ true) → (is t (first f) ≡ true) ⊎ (has t (rest f ++ q) ≡ true)
        deeper (inl n) = inl n
        deeper (inr n) = inr (rw (has-append, n))

    by_protocol : (p : Protocol) → engaged_by g p t s past ≡ true → (is t (sem_state_by g p s past).holder ≡ true) ⊎ (has t (sem_state_by g p s past).waiting ≡ true)
    by_protocol Fmlp k = has-split t (fmlp g s past) k
    by_protocol Omlp k = omlp_split (omlp g s past).fifo (omlp g s past).queue (has-appended t (omlp g s past).fifo (omlp g s past).queue k)
    by_protocol Mpcp k = either _ _ k
    by_protocol Srp k = inl (srp-first t s (srp g (cluster_of g s) past) kept.of_srp k)
    by_protocol Pcp k = split (either (has_pair t s (pcp g (cluster_of g s) past).held) _ k)
      where
        split : (has_pair t s (pcp g (cluster_of g s) past).held ≡ true) ⊎ (has_pair t s (pcp g (cluster_of g s) past).waiting ≡ true) → (is t (first (of_sem s (pcp g (cluster_of g s) past).held)) ≡ true) ⊎ (has t (of_sem s (pcp g (cluster_of g s) past).waiting) ≡ true)
        split (inl m) = inl (pcp-first g (cluster_of g s) t s (pcp g (cluster_of g s) past) kept.of_pcp m)
        split (inr m) = inr (rw has-of_sem m)

-- who holds is engaged
pub holder-engaged : (g : Group) (t s : ℕ) (past : Past) → is t (holder g s past) ≡ true → engaged g t s past ≡ true
unfolding engaged engaged_by holder sem_state sem_state_by
holder-engaged g t s past h = by_protocol (protocol g s) h
  where
    by_protocol : (p : Protocol) → is t (sem_state_by g p s past).holder ≡ true → engaged_by g p t s past ≡ true
    by_protocol Fmlp k = has-first t (fmlp g s past) k
    by_protocol Omlp k = rw (has-append, has-first t (omlp g s past).fifo k)
    by_protocol Mpcp k = rw k
    by_protocol Srp k = first-srp t s (srp g (cluster_of g s) past) k
    by_protocol Pcp k = rw (first-pcp t s (pcp g (cluster_of g s) past) k)

-- who waits is engaged
pub waiting-engaged : (g : Group) (t s : ℕ) (past : Past) → has t (sem_state g s past).waiting ≡ true → engaged g t s past ≡ true
unfolding engaged engaged_by holder sem_state sem_state_by
waiting-engaged g t s past h = by_protocol (protocol g s) h
  where
    omlp_split : (f q : List ℕ) → (has t (rest f) ≡ true) ⊎ (has t q ≡ true) → has t (f ++ q) ≡ true
    omlp_split f q (inl m) = rw (has-append, has-rest t f m)
    omlp_split f q (inr m) = rw (has-append, m) (or_true (has t f))

    by_protocol : (p : Protocol) → has t (sem_state_by g p s past).waiting ≡ true → engaged_by g p t s past ≡ true
    by_protocol Fmlp k = has-rest t (fmlp g s past) k
    by_protocol Omlp k = omlp_split (omlp g s past).fifo (omlp g s past).queue (has-appended t (rest (omlp g s past).fifo) (omlp g s past).queue k)
    by_protocol Mpcp k = rw k (or_true (is t (mpcp g s past).holder))
    by_protocol Srp k = cc
    by_protocol Pcp k = let m : has_pair t s (pcp g (cluster_of g s) past).waiting ≡ true = sym (has-of_sem t s (pcp g (cluster_of g s) past).waiting) ∙ k in rw m (or_true (has_pair t s (pcp g (cluster_of g s) past).held))

-- who holds goes on until it frees
pub holder-stays : (g : Group) (t s : ℕ) (e : Event) (past : Past) → Freed g e past → IsKept g (cluster_of g s) (e ∷ past) → is t (holder g s past) ≡ true → (is t (holder g s (e ∷ past)) ≡ true) ⊎ (sem_act e ≡ Frees t s)
unfolding holder sem_state sem_state_by fmlp omlp mpcp pcp srp
holder-stays g t s e past frees kept h = by_protocol (protocol g s) refl h
  where
    act : SemAct
    act = at_sem s (sem_act e)

    freed_by : (p : Protocol) → protocol g s ≡ p → (u r : ℕ) → act ≡ Frees u r → is u (sem_state_by g p s past).holder ≡ true
    freed_by p q u r f = rw (← q) (frees u s (at_sem-frees s u r (sem_act e) f))

    freed : {A : Type 0} → A ⊎ FreesSome t act → A ⊎ (sem_act e ≡ Frees t s)
    freed (inl m) = inl m
    freed (inr m) = inr (at_sem-frees s t m.0 (sem_act e) m.1)

    by_protocol : (p : Protocol) → protocol g s ≡ p → is t (sem_state_by g p s past).holder ≡ true → (is t (sem_state_by g p s (e ∷ past)).holder ≡ true) ⊎ (sem_act e ≡ Frees t s)
    by_protocol Fmlp r k = freed (fmlp-holds t act (fmlp g s past) (freed_by Fmlp r) k)
    by_protocol Omlp r k = freed (omlp-holds (cpus g (cluster_of g s)) (above g past) t act (omlp g s past) (freed_by Omlp r) k)
    by_protocol Mpcp r k = freed (mpcp-holds (above g past) t act (mpcp g s past) (freed_by Mpcp r) k)
    by_protocol Srp r k = split_srp (srp-holds t s (srp_at g (cluster_of g s) (sem_act e)) (srp g (cluster_of g s) past) (first-srp t s (srp g (cluster_of g s) past) k))
      where
        split_srp : (has_pair t s (srp g (cluster_of g s) (e ∷ past)) ≡ true) ⊎ (srp_at g (cluster_of g s) (sem_act e) ≡ Frees t s) → (is t (first (of_sem s (srp g (cluster_of g s) (e ∷ past)))) ≡ true) ⊎ (sem_act e ≡ Frees t s)
        split_srp (inl m) = inl (srp-first t s (srp g (cluster_of g s) (e ∷ past)) kept.of_srp m)
        split_srp (inr m) = inr (srp_at-frees g (cluster_of g s) t s (sem_act e) m)
    by_protocol Pcp r k = split (pcp-holds (above g []) (above_ceiling g) t s (at_cluster g (cluster_of g s) (sem_act e)) (pcp g (cluster_of g s) past) (first-pcp t s (pcp g (cluster_of g s) past) k))
      where
        split : (has_pair t s (pcp g (cluster_of g s) (e ∷ past)).held ≡ true) ⊎ (at_cluster g (cluster_of g s) (sem_act e) ≡ Frees t s) → (is t (first (of_sem s (pcp g (cluster_of g s) (e ∷ past)).held)) ≡ true) ⊎ (sem_act e ≡ Frees t s)
        split (inl m) = inl (pcp-first g (cluster_of g s) t s (pcp g (cluster_of g s) (e ∷ past)) kept.of_pcp m)
        split (inr m) = inr (at_cluster-frees g (cluster_of g s) t s (sem_act e) m)
