-- Whoever waits waits for the owner of the semaphore, who holds one.
use Rattle.std.proofs.Common.{Bool, List, [], false, map, refl, subst, sym, true, ℕ, ◌∙◌, ◌∷◌, ◌≡◌}
use Rattle.std.specs.Prelude.{Some, if◌then◌else◌}
use Rattle.rt_task.specs.declared.Protocol.TheVariants.{Fmlp, Mpcp, Omlp, Pcp, Srp}
use Rattle.rt_task.specs.declared.Protocol.{Protocol}
use Rattle.rt_rules.specs.Numbers.{first, has, is, is_empty}
use Rattle.rt_rules.specs.Pcp.{TaskSem, of_others, of_sem, passes}
use Rattle.rt_model.specs.BaseKeys.{base_key}
use Rattle.rt_model.specs.Blockers.{blocker, blocker_among, has_higher_ceiling}
use Rattle.rt_model.specs.Ceilings.{above_ceiling, ceiling, is_pcp, pcp}
use Rattle.rt_model.specs.EffectiveKeys.{next_at, next_by, waits_for}
use Rattle.rt_model.specs.Group.{Group, home, protocol, sems, users}
use Rattle.rt_model.specs.Holders.{awaits, holder, holds, sem_state}
use Rattle.rt_model.specs.Reachable.{IsReachable}
use Rattle.rt_model.specs.Past.{Past}
use Rattle.rt_model.specs.Semaphores.{cluster_of}
use Rattle.rt_rules.proofs.BoolLaws.{clash, unless}
use Rattle.rt_rules.proofs.BlockerLaws.{newest-of_others}
use Rattle.rt_rules.proofs.MemberLaws.{empty-none, equal_self, some-is}
use Rattle.rt_rules.proofs.PairLaws.{has_pair, tasks_of_pairs}
use Rattle.rt_rules.proofs.PcpLaws.{IsStacked, newest-other}
use Rattle.rt_laws.proofs.jobs.Engaged.{waiting-engaged}
use Rattle.rt_laws.proofs.GroupLaws.{user-task}
use Rattle.rt_laws.proofs.semaphores.Holding.{holds-one}
use Rattle.rt_laws.proofs.pcp.PcpState.{IsPcpKept, IsUser, pcp-first, pcp-holder, pcp_kept, sem-home, user-not_over}
use Rattle.rt_laws.proofs.pcp.PcpWalks.{waiting-stops, walk-step}
use Rattle.rt_laws.proofs.Rules.{MeetsRules}
use Rattle.rt_laws.proofs.semaphores.Waiting.{awaits-waits}
use Rattle.rt_changes.specs.Owners.{newest_owner, owner}
use Rattle.rt_changes.proofs.Acting.{all_parties, party-home}

-- ---- PCP: the blocker is the owner of the newest grant

blocker-newest : (g : Group) (t v : ℕ) (p : TaskSem) (ps : List TaskSem) → IsStacked (above_ceiling g) (p ∷ ps) → ((u s : ℕ) → has_pair u s (p ∷ ps) ≡ true → has u (users g s) ≡ true) → passes (above_ceiling g) (p ∷ ps) t ≡ false → blocker_among g (of_others t (p ∷ ps)) ≡ Some v → v ≡ p.task
unfolding blocker_among has_higher_ceiling above_ceiling
blocker-newest g t v p ps k user h b =
    let newest = newest-of_others (λ u. base_key g u []) (ceiling g) t (p ∷ ps) k (λ u s m. user-not_over g u s (user u s m)) in
    let others : first (tasks_of_pairs (of_others t (p ∷ ps))) ≡ Some p.task = rw (newest-other (above_ceiling g) p ps t k h) refl in
    let same : Some v ≡ Some p.task = sym b ∙ newest ∙ others in
    cc

-- ---- the owner

module _ (g : Group) (rules : MeetsRules g) (past : Past) (made : IsReachable g past) where
  pcp-owner : (t s v : ℕ) → is_pcp (protocol g s) ≡ true → home g t ≡ cluster_of g s → has t (sem_state g s past).waiting ≡ true → blocker g t past ≡ Some v → newest_owner g (cluster_of g s) past ≡ Some v
  unfolding blocker
  pcp-owner t s v k there w b = subst (λ c. newest_owner g c past ≡ Some v) there (by_held (pcp g (home g t) past).held refl)
    where
      kept : IsPcpKept g (home g t) (pcp g (home g t) past)
      kept = pcp_kept g rules (home g t) made

      stops : passes (above_ceiling g) (pcp g (home g t) past).held t ≡ false
      stops = waiting-stops g rules past made t s k w

      by_held : (l : List TaskSem) → (pcp g (home g t) past).held ≡ l → first (map (λ (p : TaskSem). p.task) (pcp g (home g t) past).held) ≡ Some v
      by_held [] e = let m : passes (above_ceiling g) [] t ≡ false = subst (λ l. passes (above_ceiling g) l t ≡ false) e stops in cc
      by_held (p ∷ ps) e =
          let same : v ≡ p.task = blocker-newest g t v p ps (subst (λ l. IsStacked (above_ceiling g) l) e kept.stack.stacked) (λ u r m. (kept.held u r (rw e m)).user) (subst (λ l. passes (above_ceiling g) l t ≡ false) e stops) (subst (λ l. blocker_among g (of_others t l) ≡ Some v) e b) in
          rw (e, same)

  -- a task that waits at a semaphore waits for its owner
  pub waits-owner : (t s : ℕ) → awaits g t past ≡ Some s → waits_for g t past ≡ owner g s past
  unfolding waits_for next_at next_by
  waits-owner t s a = by_kind (is_pcp (protocol g s)) refl
    where
      w : (has s (sems g) ≡ true) × (has t (sem_state g s past).waiting ≡ true)
      w = awaits-waits g t s past a

      next_is : waits_for g t past ≡ next_by g (protocol g s) s t past
      next_is = rw a

      of_pcp : (x : Protocol) → is_pcp x ≡ true → next_by g x s t past ≡ blocker g t past
      of_pcp Pcp e = refl
      of_pcp Fmlp e = cc
      of_pcp Omlp e = cc
      of_pcp Mpcp e = cc
      of_pcp Srp e = cc

      of_others_kind : (x : Protocol) → is_pcp x ≡ false → next_by g x s t past ≡ holder g s past
      of_others_kind Pcp e = cc
      of_others_kind Fmlp e = refl
      of_others_kind Omlp e = refl
      of_others_kind Mpcp e = refl
      of_others_kind Srp e = refl

      by_kind : (b : Bool) → is_pcp (protocol g s) ≡ b → waits_for g t past ≡ owner g s past
      by_kind true k =
          let q = walk-step g rules past made t s a in
          let to_blocker : waits_for g t past ≡ blocker g t past = next_is ∙ of_pcp (protocol g s) k in
          let there : home g t ≡ cluster_of g s = party-home g rules t s (all_parties g rules made t s (waiting-engaged g t s past w.1)) k in
          let owns : newest_owner g (cluster_of g s) past ≡ Some q.0 = pcp-owner t s q.0 k there w.1 (sym to_blocker ∙ q.1) in
          rw (q.1, k, owns)
      by_kind false k = rw k (next_is ∙ of_others_kind (protocol g s) k)

  -- an owner holds a semaphore
  pub owner-holds : (s v : ℕ) → has s (sems g) ≡ true → owner g s past ≡ Some v → is_empty (holds g v past) ≡ false
  owner-holds s v there = by_kind (is_pcp (protocol g s))
    where
      not_empty : (r : ℕ) → has r (holds g v past) ≡ true → is_empty (holds g v past) ≡ false
      not_empty r h = unless _ (λ m. clash _ h (empty-none r (holds g v past) m))

      by_held : (c : ℕ) (l : List TaskSem) → (pcp g c past).held ≡ l → first (map (λ (p : TaskSem). p.task) l) ≡ Some v → is_empty (holds g v past) ≡ false
      by_held c [] e h = cc
      by_held c (p ∷ ps) e h =
          let same : p.task ≡ v = cc in
          let pair : has_pair p.task p.sem (pcp g c past).held ≡ true = rw (e, equal_self p.task, equal_self p.sem) in
          let u : IsUser g c p.task p.sem = (pcp_kept g rules c made).held p.task p.sem pair in
          let d = user-task g p.sem p.task u.user in
          let known = rules.is_known p.task p.sem d.0 d.1 in
          let first_is = pcp-first g c p.task p.sem (pcp g c past) (pcp_kept g rules c made) pair in
          let holder_is : is p.task (holder g p.sem past) ≡ true = rw (pcp-holder g p.sem past u.of_pcp) (subst (λ n. is p.task (first (of_sem p.sem (pcp g n past).held)) ≡ true) (sym (sem-home g rules c p.task p.sem u)) first_is) in
          not_empty p.sem (subst (λ n. has p.sem (holds g n past) ≡ true) same (holds-one g p.task p.sem past known holder_is))

      by_kind : (b : Bool) → (if b then newest_owner g (cluster_of g s) past else holder g s past) ≡ Some v → is_empty (holds g v past) ≡ false
      by_kind true h = by_held (cluster_of g s) (pcp g (cluster_of g s) past).held refl h
      by_kind false h = not_empty s (holds-one g v s past there (some-is v (holder g s past) h))
