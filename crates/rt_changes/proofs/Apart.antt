-- Who holds a semaphore does not wait for it, under every protocol; and who asks does not hold it.
use Rattle.std.proofs.Common.{Bool, List, [], cond, eqb-true, false, not, refl, subst, sym, true, ℕ, ◌&&◌, ◌++◌, ◌||◌, ◌∙◌, ◌∷◌, ◌≡◌}
use Rattle.std.specs.List.{list_any}
use Rattle.std.specs.Prelude.{length, nat_le, ◌==◌, if◌then◌else◌}
use Rattle.rt_base.specs.declared.TheConstants.{MOST_HELD}
use Rattle.rt_task.specs.RuleWords.{is_stacked}
use Rattle.rt_task.specs.declared.Protocol.TheVariants.{Fmlp, Mpcp, Omlp, Pcp, Srp}
use Rattle.rt_task.specs.declared.Protocol.{Protocol}
use Rattle.rt_rules.specs.Numbers.{first, has, is}
use Rattle.rt_rules.specs.Pcp.{PcpState, TaskSem, granted, in_order, of_sem, passes, pcp_after, tested, without_pair}
use Rattle.rt_rules.specs.SemState.{Asks, Frees, Neither, SemAct}
use Rattle.rt_model.specs.Answers.{nests}
use Rattle.rt_model.specs.BaseKeys.{above}
use Rattle.rt_model.specs.Ceilings.{above_ceiling, at_cluster, is_pcp, pcp}
use Rattle.rt_model.specs.Group.{Group, home, protocol, sems}
use Rattle.rt_model.specs.Holders.{holder, holds, sem_state}
use Rattle.rt_model.specs.Reachable.{IsReachable}
use Rattle.rt_model.specs.Past.{Event, Past, sem_act}
use Rattle.rt_model.specs.Semaphores.{cluster_of}
use Rattle.rt_rules.proofs.BoolLaws.{both, clash, neither, unless}
use Rattle.rt_rules.proofs.PairLaws.{has_pair, has_pair-append, has_pair-without_pair, without_pair-gone}
use Rattle.rt_laws.proofs.semaphores.Asked.{Asked, IsAsked, asked, asks_empty}
use Rattle.rt_laws.proofs.semaphores.AtSem.{at_cluster-asks}
use Rattle.rt_laws.proofs.semaphores.Holding.{holds-none, holds-one}
use Rattle.rt_laws.proofs.Moves.{by_moves}
use Rattle.rt_laws.proofs.pcp.PcpState.{first-pcp, pcp-first, pcp-holder, pcp-waiting, pcp_kept}
use Rattle.rt_laws.proofs.Rules.{MeetsRules}
use Rattle.rt_laws.proofs.semaphores.WaitsHolding.{waits_under_pcp}
use Rattle.rt_changes.proofs.Acting.{party-home}

-- ---- who asks

-- who asks does not hold what it asks for
pub asks-holds_not : (g : Group) (t s : ℕ) (past : Past) → IsAsked g t s past → is t (holder g s past) ≡ false
unfolding nests
asks-holds_not g t s past a = by_protocol (protocol g s) refl a.unnested
  where
    of_pcp : list_any (λ r. not (is_pcp (protocol g r))) (holds g t past) || (has s (holds g t past) || nat_le MOST_HELD (length (holds g t past))) ≡ false → is t (holder g s past) ≡ false
    of_pcp n = unless _ (λ h. clash _ (holds-one g t s past a.known h) (neither (has s (holds g t past)) _ (neither (list_any (λ r. not (is_pcp (protocol g r))) (holds g t past)) _ n).1).0)

    empty : (p : Protocol) → is_stacked p ≡ false → nests g p s t past ≡ false → is t (holder g s past) ≡ false
    empty p k n = holds-none g t s past (asks_empty g p t s past k n) a.known

    by_protocol : (p : Protocol) → protocol g s ≡ p → nests g p s t past ≡ false → is t (holder g s past) ≡ false
    by_protocol Fmlp e n = empty Fmlp refl n
    by_protocol Omlp e n = empty Omlp refl n
    by_protocol Mpcp e n = empty Mpcp refl n
    by_protocol Pcp e n = of_pcp n
    by_protocol Srp e n = unless _ (λ h. clash _ (holds-one g t s past a.known h) (neither (has s (holds g t past)) (nat_le MOST_HELD (length (holds g t past))) n).0)

-- ---- PCP

-- no pair is both held and waited for
abbrev pub AreApart : PcpState → Type 0
AreApart l = (t s : ℕ) → has_pair t s l.held ≡ true → has_pair t s l.waiting ≡ false

granted-apart : (p : TaskSem) (l : PcpState) → AreApart l → AreApart (granted p l)
granted-apart p l k t s h = by_case (t == p.task && s == p.sem) refl h
  where
    by_case : (b : Bool) → (t == p.task && s == p.sem) ≡ b → b || has_pair t s l.held ≡ true → has_pair t s (without_pair p l.waiting) ≡ false
    by_case true e m = let q = both (t == p.task) (s == p.sem) e in rw (eqb-true t p.task q.0, eqb-true s p.sem q.1) (without_pair-gone p l.waiting)
    by_case false e m = unless _ (λ n. clash _ (has_pair-without_pair t s p l.waiting n) (k t s m))

tested-apart : (over : ℕ → ℕ → Bool) (ps : List TaskSem) (l : PcpState) → AreApart l → AreApart (tested over ps l)
tested-apart over [] l k = k
tested-apart over (p ∷ ps) l k = tested-apart over ps (if passes over l.held p.task then granted p l else l) (by_case (passes over l.held p.task))
  where
    by_case : (b : Bool) → AreApart (cond b (granted p l) l)
    by_case true = granted-apart p l k
    by_case false = k

apart-after : (above over : ℕ → ℕ → Bool) (x : SemAct) (l : PcpState) → ((t s : ℕ) → x ≡ Asks t s → (has_pair t s l.held ≡ false) × (has_pair t s l.waiting ≡ false)) → AreApart l → AreApart (pcp_after above over x l)
apart-after above over (Asks u r) l fresh k = by_case (passes over l.held u)
  where
    new : (has_pair u r l.held ≡ false) × (has_pair u r l.waiting ≡ false)
    new = fresh u r refl

    by_case : (b : Bool) → AreApart (if b then record l { held = record { task = u; sem = r } ∷ l.held } else record l { waiting = l.waiting ++ record { task = u; sem = r } ∷ [] })
    by_case true t s h = at (t == u && s == r) refl h
      where
        at : (b : Bool) → (t == u && s == r) ≡ b → b || has_pair t s l.held ≡ true → has_pair t s l.waiting ≡ false
        at true e m = let q = both (t == u) (s == r) e in rw (eqb-true t u q.0, eqb-true s r q.1) new.1
        at false e m = k t s m
    by_case false t s h = rw (has_pair-append, k t s h) (at (t == u && s == r) refl)
      where
        at : (b : Bool) → (t == u && s == r) ≡ b → b || false ≡ false
        at true e = let q = both (t == u) (s == r) e in absurd (clash _ h (rw (eqb-true t u q.0, eqb-true s r q.1) new.0))
        at false e = refl
apart-after above over (Frees u r) l fresh k = tested-apart over (in_order above l.waiting) (record l { held = without_pair (record { task = u; sem = r }) l.held }) (λ t s h. k t s (has_pair-without_pair t s (record { task = u; sem = r }) l.held h))
apart-after above over Neither l fresh k = k

apart-event : (g : Group) → MeetsRules g → (c : ℕ) (e : Event) (past : Past) → IsReachable g past → Asked g e past → AreApart (pcp g c past) → AreApart (pcp g c (e ∷ past))
unfolding pcp
apart-event g rules c e past made asks k = apart-after (above g []) (above_ceiling g) (at_cluster g c (sem_act e)) (pcp g c past) fresh k
  where
    fresh : (t s : ℕ) → at_cluster g c (sem_act e) ≡ Asks t s → (has_pair t s (pcp g c past).held ≡ false) × (has_pair t s (pcp g c past).waiting ≡ false)
    fresh t s h = (no_hold, no_wait)
      where
        q : (sem_act e ≡ Asks t s) × (home g t ≡ c) × (is_pcp (protocol g s) ≡ true)
        q = at_cluster-asks g c t s (sem_act e) h

        a : IsAsked g t s past
        a = asks t s q.0

        there : cluster_of g s ≡ c
        there = sym (party-home g rules t s (record { known = a.known; user = a.user }) q.2) ∙ q.1

        holds_not : is t (first (of_sem s (pcp g (cluster_of g s) past).held)) ≡ false
        holds_not = rw (pcp-holder g s past q.2) at (asks-holds_not g t s past a)

        no_hold : has_pair t s (pcp g c past).held ≡ false
        no_hold = unless _ (λ m. clash _ (pcp-first g c t s (pcp g c past) (pcp_kept g rules c made) m) (subst (λ n. is t (first (of_sem s (pcp g n past).held)) ≡ false) there holds_not))

        waits_not : has_pair t s (pcp g (cluster_of g s) past).waiting ≡ false
        waits_not = sym (pcp-waiting g t s past q.2) ∙ a.waits_none s a.known

        no_wait : has_pair t s (pcp g c past).waiting ≡ false
        no_wait = subst (λ n. has_pair t s (pcp g n past).waiting ≡ false) there waits_not

pub pcp_apart : (g : Group) → MeetsRules g → (c : ℕ) → {past : Past} → IsReachable g past → AreApart (pcp g c past)
unfolding pcp
pcp_apart g rules c made = by_moves g (λ past. AreApart (pcp g c past)) (λ t s h. cc) (λ past e made move before. apart-event g rules c e past made (asked g rules made move) before) made

-- ---- every protocol

-- who holds a semaphore does not wait for it
pub apart : (g : Group) → MeetsRules g → {past : Past} → IsReachable g past → (t s : ℕ) → has s (sems g) ≡ true → is t (holder g s past) ≡ true → has t (sem_state g s past).waiting ≡ false
apart g rules {past} made t s there h = unless _ met
  where
    met : has t (sem_state g s past).waiting ≡ true → ⊥
    met w =
        let k : is_pcp (protocol g s) ≡ true = (waits_under_pcp g rules made t s s there there h w).0 in
        let held : has_pair t s (pcp g (cluster_of g s) past).held ≡ true = first-pcp t s (pcp g (cluster_of g s) past) (rw (pcp-holder g s past k) at h) in
        let waits : has_pair t s (pcp g (cluster_of g s) past).waiting ≡ true = sym (pcp-waiting g t s past k) ∙ w in
        clash _ waits (pcp_apart g rules (cluster_of g s) made t s held)
