-- Who holds and who waits before a move and after it.
use Rattle.std.proofs.Common.{Bool, List, [], false, inl, inr, refl, true, ℕ, ◌&&◌, ◌∷◌, ◌≡◌, ◌⊎◌}
use Rattle.std.specs.Prelude.{None, Option, Some, is_none, nat_lt, length, ◌++◌, if◌then◌else◌}
use Rattle.rt_task.specs.declared.Protocol.TheVariants.{Fmlp, Mpcp, Omlp, Pcp, Srp}
use Rattle.rt_task.specs.declared.Protocol.{Protocol}
use Rattle.rt_rules.specs.Mpcp.{after_ask}
use Rattle.rt_rules.specs.Numbers.{first, has, is}
use Rattle.rt_rules.specs.Omlp.{OmlpState}
use Rattle.rt_rules.specs.Pcp.{passes}
use Rattle.rt_rules.specs.SemState.{Asks, Frees, SemState}
use Rattle.rt_model.specs.Answers.{is_granted}
use Rattle.rt_model.specs.Ceilings.{above_ceiling, at_cluster, is_pcp, pcp}
use Rattle.rt_model.specs.Group.{Group, cpus, home, protocol, sems}
use Rattle.rt_model.specs.Holders.{holder, holds, sem_state, sem_state_by}
use Rattle.rt_model.specs.Reachable.{IsReachable}
use Rattle.rt_model.specs.Past.{Event, Past, sem_act}
use Rattle.rt_model.specs.Semaphores.{at_sem, cluster_of, fmlp, mpcp, omlp}
use Rattle.rt_rules.proofs.MemberLaws.{equal_self, has-filter}
use Rattle.rt_laws.proofs.jobs.Engaged.{engaged, engaged-cases, engaged-step, holder-engaged, holder-stays, waiting-engaged}
use Rattle.rt_laws.proofs.Moves.{IsMove, moved}
use Rattle.rt_laws.proofs.Next.{IsNext, next}
use Rattle.rt_laws.proofs.Rules.{MeetsRules}
use Rattle.rt_laws.proofs.srp.SrpState.{kept}
use Rattle.rt_changes.proofs.Stays.{engaged-stays}

-- what a task holds
pub has-holds : (g : Group) (t s : ℕ) (past : Past) → has s (holds g t past) ≡ has s (sems g) && is t (holder g s past)
unfolding holds
has-holds g t s past = has-filter (λ r. is t (holder g r past)) s (sems g)

module _ (g : Group) (rules : MeetsRules g) (e : Event) (past : Past) (made : IsReachable g past) (move : IsMove g past e) where
  pub what_next : IsNext g e past
  what_next = next g rules made move

  -- who holds after a move held before it, or waited, or asks
  pub held-before : (t s : ℕ) → is t (holder g s (e ∷ past)) ≡ true → (is t (holder g s past) ≡ true) ⊎ ((has t (sem_state g s past).waiting ≡ true) ⊎ (sem_act e ≡ Asks t s))
  held-before t s h = split (engaged-step g t s e past (holder-engaged g t s (e ∷ past) h))
    where
      deeper : (is t (holder g s past) ≡ true) ⊎ (has t (sem_state g s past).waiting ≡ true) → (is t (holder g s past) ≡ true) ⊎ ((has t (sem_state g s past).waiting ≡ true) ⊎ (sem_act e ≡ Asks t s))
      deeper (inl k) = inl k
      deeper (inr k) = inr (inl k)

      split : (engaged g t s past ≡ true) ⊎ (sem_act e ≡ Asks t s) → (is t (holder g s past) ≡ true) ⊎ ((has t (sem_state g s past).waiting ≡ true) ⊎ (sem_act e ≡ Asks t s))
      split (inl k) = deeper (engaged-cases g t s past (kept g rules (cluster_of g s) made) k)
      split (inr k) = inr (inr k)

  -- who holds goes on until it frees
  pub holds-on : (t s : ℕ) → is t (holder g s past) ≡ true → (is t (holder g s (e ∷ past)) ≡ true) ⊎ (sem_act e ≡ Frees t s)
  holds-on t s h = holder-stays g t s e past what_next.freed (kept g rules (cluster_of g s) (moved g made move)) h

  -- who is engaged after a move holds or waits
  pub stands-after : (t s : ℕ) → engaged g t s (e ∷ past) ≡ true → (is t (holder g s (e ∷ past)) ≡ true) ⊎ (has t (sem_state g s (e ∷ past)).waiting ≡ true)
  stands-after t s h = engaged-cases g t s (e ∷ past) (kept g rules (cluster_of g s) (moved g made move)) h

  -- who waits goes on, or holds then
  pub waits-on : (t s : ℕ) → has t (sem_state g s past).waiting ≡ true → ((is t (holder g s (e ∷ past)) ≡ true) ⊎ (has t (sem_state g s (e ∷ past)).waiting ≡ true)) ⊎ (sem_act e ≡ Frees t s)
  waits-on t s h = split (engaged-stays g t s e past what_next.freed (waiting-engaged g t s past h))
    where
      split : (engaged g t s (e ∷ past) ≡ true) ⊎ (sem_act e ≡ Frees t s) → ((is t (holder g s (e ∷ past)) ≡ true) ⊎ (has t (sem_state g s (e ∷ past)).waiting ≡ true)) ⊎ (sem_act e ≡ Frees t s)
      split (inl k) = inl (stands-after t s k)
      split (inr k) = inr k

-- ---- a request that is queued leaves the holder

first-kept : (t : ℕ) (xs : List ℕ) → is_none (first xs) ≡ false → first (xs ++ t ∷ []) ≡ first xs
first-kept t [] h = cc
first-kept t (x ∷ xs) h = refl

pub queued-holder : (g : Group) (t s : ℕ) (e : Event) (past : Past) → (is_pcp (protocol g s) ≡ true → home g t ≡ cluster_of g s) → sem_act e ≡ Asks t s → is_granted g (protocol g s) s t past ≡ false → holder g s (e ∷ past) ≡ holder g s past
unfolding holder sem_state sem_state_by fmlp omlp mpcp pcp at_cluster is_granted
queued-holder g t s e past at_home a = by_protocol (protocol g s) refl
  where
    none_of : (p : Protocol) → protocol g s ≡ p → is_none (sem_state g s past).holder ≡ false → is_none (sem_state_by g p s past).holder ≡ false
    none_of p k h = rw k at h

    act_is : at_sem s (sem_act e) ≡ Asks t s
    act_is = rw (a, equal_self s)

    omlp_asks : (b : Bool) (l : OmlpState) → is_none (first l.fifo) ≡ false → first (if b then record l { fifo = l.fifo ++ t ∷ [] } else record l { queue = l.queue ++ t ∷ [] }).fifo ≡ first l.fifo
    omlp_asks true l h = first-kept t l.fifo h
    omlp_asks false l h = refl

    mpcp_asks : (o : Option ℕ) (l : SemState) → l.holder ≡ o → is_none o ≡ false → (after_ask t o l).holder ≡ l.holder
    mpcp_asks None l k h = cc
    mpcp_asks (Some u) l k h = refl

    by_protocol : (p : Protocol) → protocol g s ≡ p → is_granted g p s t past ≡ false → (sem_state_by g p s (e ∷ past)).holder ≡ (sem_state_by g p s past).holder
    by_protocol Fmlp k h = rw act_is (first-kept t (fmlp g s past) (none_of Fmlp k h))
    by_protocol Omlp k h = rw act_is (omlp_asks (nat_lt (length (omlp g s past).fifo) (cpus g (cluster_of g s))) (omlp g s past) (none_of Omlp k h))
    by_protocol Mpcp k h = rw act_is (mpcp_asks (mpcp g s past).holder (mpcp g s past) refl (none_of Mpcp k h))
    by_protocol Srp k h = cc
    by_protocol Pcp k h = let there : home g t ≡ cluster_of g s = at_home (rw k) in let stops : passes (above_ceiling g) (pcp g (cluster_of g s) past).held t ≡ false = rw there at h in rw (a, k, there, equal_self (cluster_of g s), stops)
