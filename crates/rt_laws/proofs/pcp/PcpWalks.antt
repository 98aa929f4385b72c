-- Every waiting PCP task of a cluster has the same blocker, the owner of the newest grant, and that one does not wait: each walk is one step long.
use Rattle.std.proofs.Common.{Bool, List, [], ap, false, refl, subst, suc, sym, true, zero, ℕ, ◌∙◌, ◌∷◌, ◌≡◌}
use Rattle.std.specs.Prelude.{None, Option, Some, is_none}
use Rattle.rt_task.specs.declared.Protocol.TheVariants.{Fmlp, Mpcp, Omlp, Pcp, Srp}
use Rattle.rt_task.specs.declared.Protocol.{Protocol}
use Rattle.rt_rules.specs.Numbers.{first, has, is}
use Rattle.rt_rules.specs.Pcp.{TaskSem, of_others, of_sem, passes}
use Rattle.rt_rules.specs.Walks.{walk}
use Rattle.rt_model.specs.BaseKeys.{base_key}
use Rattle.rt_model.specs.Blockers.{blocker, blocker_among, has_higher_ceiling}
use Rattle.rt_model.specs.Ceilings.{above_ceiling, ceiling, is_pcp, pcp}
use Rattle.rt_model.specs.EffectiveKeys.{next_at, next_by, waits_for}
use Rattle.rt_model.specs.Group.{Group, home, protocol, sems}
use Rattle.rt_model.specs.Holders.{awaits, holder, sem_state}
use Rattle.rt_model.specs.Reachable.{IsReachable}
use Rattle.rt_model.specs.Past.{Past}
use Rattle.rt_model.specs.Semaphores.{cluster_of}
use Rattle.rt_rules.proofs.BoolLaws.{clash, unless}
use Rattle.rt_rules.proofs.MemberLaws.{equal_self, some-is}
use Rattle.rt_rules.proofs.PairLaws.{has_pair}
use Rattle.rt_rules.proofs.BlockerLaws.{newest-of_others}
use Rattle.rt_rules.proofs.PairLaws.{tasks_of_pairs}
use Rattle.rt_rules.proofs.PcpLaws.{IsStacked, newest-other}
use Rattle.rt_laws.proofs.GroupLaws.{user-task}
use Rattle.rt_laws.proofs.semaphores.HasHolder.{has_holder}
use Rattle.rt_laws.proofs.pcp.PcpState.{pcp-waiting, pcp-holder, sem-home, IsPcpKept, IsUser, pcp-first, pcp_kept, user-not_over}
use Rattle.rt_laws.proofs.Rules.{MeetsRules}
use Rattle.rt_laws.proofs.semaphores.Waiting.{awaits-waits, none-waits}
use Rattle.rt_laws.proofs.semaphores.WaitsHolding.{waits_under_pcp}

-- the blocker of a task that does not pass is the owner of the newest grant
pub newest-blocks :
    (g : Group) (t : ℕ) (p : TaskSem) (ps : List TaskSem) → IsStacked (above_ceiling g) (p ∷ ps)
    → ((u s : ℕ) → has_pair u s (p ∷ ps) ≡ true → above_ceiling g u s ≡ false) → passes (above_ceiling g) (p ∷ ps) t ≡ false
    → blocker_among g (of_others t (p ∷ ps)) ≡ Some p.task
unfolding blocker_among has_higher_ceiling above_ceiling
newest-blocks g t p ps k low stops =
    let newest = newest-of_others (λ u. base_key g u []) (ceiling g) t (p ∷ ps) k low in
    let others_are : of_others t (p ∷ ps) ≡ p ∷ of_others t ps = rw (newest-other (above_ceiling g) p ps t k stops) in
    newest ∙ ap (λ qs. first (tasks_of_pairs qs)) others_are

-- ---- walks

module _ (g : Group) (rules : MeetsRules g) (past : Past) (made : IsReachable g past) where
  -- the owner of the newest grant of a cluster does not wait
  newest-free : (c : ℕ) (p : TaskSem) (ps : List TaskSem) → (pcp g c past).held ≡ p ∷ ps → awaits g p.task past ≡ None
  newest-free c p ps e = none-waits g p.task past (λ r hr. unless _ (λ w. by_kind r hr w (is_pcp (protocol g r)) refl))
    where
      kept : IsPcpKept g c (pcp g c past)
      kept = pcp_kept g rules c made

      there : has_pair p.task p.sem (pcp g c past).held ≡ true
      there = rw (e, equal_self p.task, equal_self p.sem)

      owner : IsUser g c p.task p.sem
      owner = kept.held p.task p.sem there

      known : has p.sem (sems g) ≡ true
      known = let u = user-task g p.sem p.task owner.user in rules.is_known p.task p.sem u.0 u.1

      sem_home : cluster_of g p.sem ≡ c
      sem_home = sem-home g rules c p.task p.sem owner

      holds_it : is p.task (holder g p.sem past) ≡ true
      holds_it = rw (pcp-holder g p.sem past owner.of_pcp) (subst (λ n. is p.task (first (of_sem p.sem (pcp g n past).held)) ≡ true) (sym sem_home) (pcp-first g c p.task p.sem (pcp g c past) kept there))

      stacked : IsStacked (above_ceiling g) (p ∷ ps)
      stacked = subst (λ l. IsStacked (above_ceiling g) l) e kept.stack.stacked

      by_kind : (r : ℕ) → has r (sems g) ≡ true → has p.task (sem_state g r past).waiting ≡ true → (b : Bool) → is_pcp (protocol g r) ≡ b → ⊥
      by_kind r hr w true k =
          let pair : has_pair p.task r (pcp g (cluster_of g r) past).waiting ≡ true = sym (pcp-waiting g p.task r past k) ∙ w in
          let other : IsUser g (cluster_of g r) p.task r = (pcp_kept g rules (cluster_of g r) made).waiting p.task r pair in
          let same : cluster_of g r ≡ c = sym other.at_home ∙ owner.at_home in
          let stops : passes (above_ceiling g) (pcp g c past).held p.task ≡ false = kept.stack.blocked p.task r (subst (λ n. has_pair p.task r (pcp g n past).waiting ≡ true) same pair) in
          let stops_here : passes (above_ceiling g) (p ∷ ps) p.task ≡ false = subst (λ l. passes (above_ceiling g) l p.task ≡ false) e stops in
          clash _ (equal_self p.task) (newest-other (above_ceiling g) p ps p.task stacked stops_here)
      by_kind r hr w false k = clash _ (waits_under_pcp g rules made p.task p.sem r known hr holds_it w).1 k

  -- who waits for a PCP semaphore is of its cluster, and does not pass
  pcp-home : (t s : ℕ) → is_pcp (protocol g s) ≡ true → has t (sem_state g s past).waiting ≡ true → home g t ≡ cluster_of g s
  pcp-home t s k w = ((pcp_kept g rules (cluster_of g s) made).waiting t s (sym (pcp-waiting g t s past k) ∙ w)).at_home

  pub waiting-stops : (t s : ℕ) → is_pcp (protocol g s) ≡ true → has t (sem_state g s past).waiting ≡ true → passes (above_ceiling g) (pcp g (home g t) past).held t ≡ false
  waiting-stops t s k w = (pcp_kept g rules (home g t) made).stack.blocked t s (subst (λ n. has_pair t s (pcp g n past).waiting ≡ true) (sym (pcp-home t s k w)) (sym (pcp-waiting g t s past k) ∙ w))

  -- a task that waits for a PCP semaphore is blocked by the owner of the newest grant
  pcp-step : (t s : ℕ) → has s (sems g) ≡ true → is_pcp (protocol g s) ≡ true → has t (sem_state g s past).waiting ≡ true → (u : ℕ) × (blocker g t past ≡ Some u) × (awaits g u past ≡ None)
  unfolding blocker
  pcp-step t s hs k w = by_held (pcp g (home g t) past).held refl
    where
      kept : IsPcpKept g (home g t) (pcp g (home g t) past)
      kept = pcp_kept g rules (home g t) made

      stops : passes (above_ceiling g) (pcp g (home g t) past).held t ≡ false
      stops = waiting-stops t s k w

      by_held : (l : List TaskSem) → (pcp g (home g t) past).held ≡ l → (u : ℕ) × (blocker_among g (of_others t (pcp g (home g t) past).held) ≡ Some u) × (awaits g u past ≡ None)
      by_held [] e = let m : passes (above_ceiling g) [] t ≡ false = subst (λ l. passes (above_ceiling g) l t ≡ false) e stops in cc
      by_held (p ∷ ps) e =
          let low = subst (λ l. (u r : ℕ) → has_pair u r l ≡ true → above_ceiling g u r ≡ false) e (λ u r m. user-not_over g u r (kept.held u r m).user) in
          let blocks : blocker_among g (of_others t (p ∷ ps)) ≡ Some p.task = newest-blocks g t p ps (subst (λ l. IsStacked (above_ceiling g) l) e kept.stack.stacked) low (subst (λ l. passes (above_ceiling g) l t ≡ false) e stops) in
          (p.task, subst (λ l. blocker_among g (of_others t l) ≡ Some p.task) (sym e) blocks, newest-free (home g t) p ps e)

  -- whoever waits waits for a task that does not
  pub walk-step : (t s : ℕ) → awaits g t past ≡ Some s → (u : ℕ) × (waits_for g t past ≡ Some u) × (awaits g u past ≡ None)
  unfolding waits_for next_at next_by
  walk-step t s a = by_kind (is_pcp (protocol g s)) refl
    where
      w : (has s (sems g) ≡ true) × (has t (sem_state g s past).waiting ≡ true)
      w = awaits-waits g t s past a

      of_pcp : (x : Protocol) → is_pcp x ≡ true → next_by g x s t past ≡ blocker g t past
      of_pcp Pcp e = refl
      of_pcp Fmlp e = cc
      of_pcp Omlp e = cc
      of_pcp Mpcp e = cc
      of_pcp Srp e = cc

      of_others_kind : (x : Protocol) → is_pcp x ≡ false → next_by g x s t past ≡ holder g s past
      of_others_kind Pcp e = cc
      of_others_kind Fmlp e = refl
      of_others_kind Omlp e = refl
      of_others_kind Mpcp e = refl
      of_others_kind Srp e = refl

      next_is : waits_for g t past ≡ next_by g (protocol g s) s t past
      next_is = rw a

      free : (u : ℕ) → holder g s past ≡ Some u → is_pcp (protocol g s) ≡ false → awaits g u past ≡ None
      free u h n = none-waits g u past (λ r hr. unless _ (λ v. clash _ (waits_under_pcp g rules made u s r w.0 hr (some-is u (holder g s past) h) v).0 n))

      found : (o : Option ℕ) → holder g s past ≡ o → is_pcp (protocol g s) ≡ false → (u : ℕ) × (waits_for g t past ≡ Some u) × (awaits g u past ≡ None)
      found None h n = let m : is_none {T = ℕ} None ≡ false = rw h at (has_holder g rules made t s w.0 n w.1) in cc
      found (Some u) h n = (u, next_is ∙ of_others_kind (protocol g s) n ∙ h, free u h n)

      by_kind : (b : Bool) → is_pcp (protocol g s) ≡ b → (u : ℕ) × (waits_for g t past ≡ Some u) × (awaits g u past ≡ None)
      by_kind true k = let q = pcp-step t s w.0 k w.1 in (q.0, next_is ∙ of_pcp (protocol g s) k ∙ q.1, q.2)
      by_kind false k = found (holder g s past) refl k

  pub walk-stops : (u : ℕ) → awaits g u past ≡ None → waits_for g u past ≡ None
  unfolding waits_for next_at
  walk-stops u e = rw e

-- a walk that goes on from None is over
pub walk-none : (next : ℕ → Option ℕ) (n : ℕ) → walk next n None ≡ []
walk-none next zero = refl
walk-none next (suc n) = refl
