-- An Unlock grants at most one waiting PCP task: the others are not over the ceiling of what was granted.
use Rattle.std.proofs.Common.{Bool, [], arith, eqb-true, false, refl, subst, sym, true, ℕ, ◌&&◌, ◌||◌, ◌∙◌, ◌∷◌, ◌≡◌}
use Rattle.std.specs.Prelude.{if◌then◌else◌, ◌==◌}
use Rattle.rt_rules.specs.Distinct.{IsDistinct}
use Rattle.rt_rules.specs.Numbers.{first, has, is}
use Rattle.rt_rules.specs.Pcp.{PcpState, TaskSem, in_order, of_sem, pcp_after, without_pair}
use Rattle.rt_rules.specs.SemState.{Frees, Neither}
use Rattle.rt_task.specs.declared.Protocol.{Protocol}
use Rattle.rt_task.specs.declared.Protocol.TheVariants.{Pcp}
use Rattle.rt_model.specs.Answers.{nests}
use Rattle.rt_model.specs.BaseKeys.{above, base_key}
use Rattle.rt_model.specs.Ceilings.{above_ceiling, at_cluster, ceiling, is_pcp, pcp}
use Rattle.rt_model.specs.Group.{Group, home, protocol, sems, users}
use Rattle.rt_model.specs.Holders.{holder, holds}
use Rattle.rt_model.specs.Reachable.{IsReachable}
use Rattle.rt_model.specs.Past.{Event, Past, sem_act}
use Rattle.rt_model.specs.Semaphores.{cluster_of}
use Rattle.rt_rules.proofs.BoolLaws.{both, clash, neither, unless}
use Rattle.rt_rules.proofs.MemberLaws.{has-filter}
use Rattle.rt_rules.proofs.KeyLaws.{higher-below}
use Rattle.rt_rules.proofs.PairLaws.{distinct-in_order, has_pair, has_pair-in_order, length-without_pair, pair-of, tasks_of_pairs}
use Rattle.rt_rules.proofs.PcpGrantLaws.{falling-in_order, tested-one}
use Rattle.rt_rules.proofs.PcpLaws.{pcp-once}
use Rattle.rt_laws.specs.PriorityCeiling.{GrantsOne, UnlockGrantsOne}
use Rattle.rt_laws.proofs.pcp.PcpOnce.{IsNew, IsOnce, freed-tried, once-step}
use Rattle.rt_laws.proofs.semaphores.Asked.{Asked, Freed, IsAsked, asked, freed}
use Rattle.rt_laws.proofs.semaphores.AtSem.{at_cluster-asks}
use Rattle.rt_laws.proofs.jobs.BaseKeyLaws.{above-strict}
use Rattle.rt_laws.proofs.GroupLaws.{user-task}
use Rattle.rt_laws.proofs.Moves.{by_moves, last_move}
use Rattle.rt_laws.proofs.pcp.PcpState.{pcp-waiting, pcp-first, pcp-holder, sem-home, IsPcpKept, IsUser, first-pcp, pcp_kept, user-not_over}
use Rattle.rt_laws.proofs.Rules.{MeetsRules}
use Rattle.rt_laws.proofs.ValidSets.{rules_of}

-- ---- each waiting task stands once

pub waits_not : (g : Group) → MeetsRules g → {past : Past} → IsReachable g past → (c t s : ℕ) → IsAsked g t s past → has t (tasks_of_pairs (pcp g c past).waiting) ≡ false
waits_not g rules {past} made c t s a = unless _ (λ h. met (pair-of t (pcp g c past).waiting h))
  where
    met : (r : ℕ) × (has_pair t r (pcp g c past).waiting ≡ true) → ⊥
    met q =
        let u : IsUser g c t q.0 = (pcp_kept g rules c made).waiting t q.0 q.1 in
        let home_is : cluster_of g q.0 ≡ c = sem-home g rules c t q.0 u in
        let d = user-task g q.0 t u.user in
        let known : has q.0 (sems g) ≡ true = rules.is_known t q.0 d.0 d.1 in
        clash _ (pcp-waiting g t q.0 past u.of_pcp ∙ subst (λ n. has_pair t q.0 (pcp g n past).waiting ≡ true) (sym home_is) q.1) (a.waits_none q.0 known)

once-event : (g : Group) → MeetsRules g → (c : ℕ) (e : Event) (past : Past) → IsReachable g past → Asked g e past → IsDistinct (tasks_of_pairs (pcp g c past).waiting) → IsDistinct (tasks_of_pairs (pcp g c (e ∷ past)).waiting)
unfolding pcp
once-event g rules c e past made asks d = pcp-once (above g []) (above_ceiling g) (at_cluster g c (sem_act e)) (pcp g c past) (λ t s h. waits_not g rules made c t s (asks t s (at_cluster-asks g c t s (sem_act e) h).0)) d

pub waiting_once : (g : Group) → MeetsRules g → (c : ℕ) → {past : Past} → IsReachable g past → IsDistinct (tasks_of_pairs (pcp g c past).waiting)
unfolding pcp
waiting_once g rules c made = by_moves g (λ past. IsDistinct (tasks_of_pairs (pcp g c past).waiting)) tt (λ past e made move before. once-event g rules c e past made (asked g rules made move) before) made

-- ---- each held pair stands once

nests-holds : (g : Group) (p : Protocol) (t s : ℕ) (past : Past) → is_pcp p ≡ true → nests g p s t past ≡ false → has s (holds g t past) ≡ false
unfolding nests
nests-holds g Pcp t s past e h = (neither (has s (holds g t past)) _ (neither _ (has s (holds g t past) || _) h).1).0
nests-holds g p t s past e h = cc

-- what a task asks for it does not hold
is_new : (g : Group) → MeetsRules g → {past : Past} → IsReachable g past → (c t s : ℕ) → is_pcp (protocol g s) ≡ true → IsAsked g t s past → IsNew t s (pcp g c past)
unfolding holds
is_new g rules {past} made c t s e a = record { holds_not = unless _ (λ h. clash _ (held h) (nests-holds g (protocol g s) t s past e a.unnested)); waits_not = waits_not g rules made c t s a }
  where
    held : has_pair t s (pcp g c past).held ≡ true → has s (holds g t past) ≡ true
    held h =
        let kept : IsPcpKept g c (pcp g c past) = pcp_kept g rules c made in
        let home_is : cluster_of g s ≡ c = sem-home g rules c t s (kept.held t s h) in
        let first_is : is t (first (of_sem s (pcp g (cluster_of g s) past).held)) ≡ true = subst (λ n. is t (first (of_sem s (pcp g n past).held)) ≡ true) (sym home_is) (pcp-first g c t s (pcp g c past) kept h) in
        let holder_is : is t (holder g s past) ≡ true = rw (pcp-holder g s past e) first_is in
        rw (has-filter (λ r. is t (holder g r past)) s (sems g), a.known, holder_is)

held-event : (g : Group) → MeetsRules g → (c : ℕ) (e : Event) (past : Past) → IsReachable g past → Asked g e past → IsOnce (pcp g c past) → IsOnce (pcp g c (e ∷ past))
unfolding pcp
held-event g rules c e past made asks o = once-step (above g []) (above_ceiling g) (at_cluster g c (sem_act e)) (pcp g c past) (λ t s h. let q = at_cluster-asks g c t s (sem_act e) h in is_new g rules made c t s q.2 (asks t s q.0)) (waiting_once g rules c made) o

pub held_once : (g : Group) → MeetsRules g → (c : ℕ) → {past : Past} → IsReachable g past → IsOnce (pcp g c past)
unfolding pcp
held_once g rules c made = by_moves g (λ past. IsOnce (pcp g c past)) (record { once = λ s. tt; apart = λ t s h. refl }) (λ past e made move before. held-event g rules c e past made (asked g rules made move) before) made

-- ---- the tries, in falling order

-- a user of the semaphore is not over its ceiling, nor is one that is not above a user
under-ceiling : (g : Group) (t u s : ℕ) → has u (users g s) ≡ true → above g [] t u ≡ false → above_ceiling g t s ≡ false
unfolding above above_ceiling
under-ceiling g t u s h k = unless _ (λ m. clash _ (higher-below (base_key g t []) (ceiling g s) (base_key g u []) m (user-not_over g u s h)) k)

grants-one : (g : Group) → MeetsRules g → (c t s : ℕ) (e : Event) (past : Past) → IsReachable g past → Freed g e past → sem_act e ≡ Frees t s → GrantsOne (pcp g c past) (pcp g c (e ∷ past))
unfolding pcp at_cluster
grants-one g rules c t s e past made frees h = rw h (by_case (home g t == c && is_pcp (protocol g s)) refl)
  where
    kept : IsPcpKept g c (pcp g c past)
    kept = pcp_kept g rules c made

    freed_state : PcpState
    freed_state = record (pcp g c past) { held = without_pair (record { task = t; sem = s }) (pcp g c past).held }

    low : (p : TaskSem) (v : ℕ) → has_pair p.task p.sem (in_order (above g []) (pcp g c past).waiting) ≡ true → above g [] v p.task ≡ false → above_ceiling g v p.sem ≡ false
    low p v k n = under-ceiling g v p.task p.sem (kept.waiting p.task p.sem (rw has_pair-in_order at k)).user n

    by_case : (b : Bool) → home g t == c && is_pcp (protocol g s) ≡ b → GrantsOne (pcp g c past) (pcp_after (above g []) (above_ceiling g) (if b then Frees t s else Neither) (pcp g c past))
    by_case false k = record { held = omega arith; waiting = omega arith }
    by_case true k =
        let one = tested-one (above g []) (above_ceiling g) (in_order (above g []) (pcp g c past).waiting) freed_state (distinct-in_order (above g []) (pcp g c past).waiting (waiting_once g rules c made)) (falling-in_order (above g []) (above-strict g []) (pcp g c past).waiting) low in
        let tried = freed-tried (above g []) (above_ceiling g) (record { task = t; sem = s }) (pcp g c past) (waiting_once g rules c made) (held_once g rules c made) in
        record { held = omega (arith, one, length-without_pair t s (pcp g c past).held there); waiting = omega (arith, one, tried.same_number) }
      where
        there : has_pair t s (pcp g c past).held ≡ true
        there = let home_is : cluster_of g s ≡ c = sym ((pcp_kept g rules (cluster_of g s) made).held t s pair).at_home ∙ eqb-true (home g t) c parts.0 in subst (λ n. has_pair t s (pcp g n past).held ≡ true) home_is pair
          where
            parts : (home g t == c ≡ true) × (is_pcp (protocol g s) ≡ true)
            parts = both (home g t == c) (is_pcp (protocol g s)) k

            pair : has_pair t s (pcp g (cluster_of g s) past).held ≡ true
            pair = first-pcp t s (pcp g (cluster_of g s) past) (rw (pcp-holder g s past parts.1) at (frees t s h))

pub unlock_grants_one : UnlockGrantsOne
unlock_grants_one g e past valid made c t s h =
    let last = last_move g made in
    grants-one g (rules_of g valid) c t s e past last.0 (freed g last.1) h
