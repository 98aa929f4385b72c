-- A job is blocked by at most one critical section of the lower tasks of its cluster.
use Rattle.std.proofs.Common.{Bool, List, [], ap, arith, cond, eqb-true, false, inl, inr, length, map, not, refl, subst, suc, sym, take, true, zero, ℕ, ◌&&◌, ◌++◌, ◌+◌, ◌≤◌, ◌||◌, ◌∙◌, ◌∷◌, ◌≡◌, ◌⊎◌}
use Rattle.std.specs.List.{list_any}
use Rattle.std.specs.Prelude.{None, Option, Some, filter, if◌then◌else◌, is_none, ◌==◌}
use Rattle.rt_task.specs.RuleWords.{stands_under}
use Rattle.rt_task.specs.declared.PluginKind.TheVariants as plugins
use Rattle.rt_task.specs.declared.PluginKind.{PluginKind}
use Rattle.rt_task.specs.declared.Protocol.TheVariants.{Fmlp, Mpcp, Omlp, Pcp, Srp}
use Rattle.rt_task.specs.declared.Protocol.{Protocol}
use Rattle.rt_rules.specs.KeyOrder.{higher}
use Rattle.rt_rules.specs.OrderLaws.{higher-irreflexive, higher-transitive}
use Rattle.rt_rules.specs.Keys.{Ranked, highest, sorted}
use Rattle.rt_rules.specs.Numbers.{first, has, is}
use Rattle.rt_rules.specs.Pcp.{PcpState, TaskSem, granted, in_order, is_same_pair, of_others, of_sem, passes, pcp_after, tested, without_pair}
use Rattle.rt_rules.specs.SemState.{Asks, Frees, Neither, SemAct}
use Rattle.rt_rules.specs.Walks.{followers, inherited, walk}
use Rattle.rt_model.specs.BaseKeys.{above, base_key, key_by}
use Rattle.rt_model.specs.Blockers.{blocker, blocker_among}
use Rattle.rt_model.specs.Boosts.{boost, boost_by, boost_of}
use Rattle.rt_model.specs.Ceilings.{above_ceiling, ceiling, is_pcp, pcp}
use Rattle.rt_model.specs.EffectiveKeys.{effective_key, next_at, next_by, waits_for}
use Rattle.rt_model.specs.Group.{Group, cpus, declares, home, protocol, sems, tasks, tasks_of}
use Rattle.rt_model.specs.Holders.{awaits, holder, holds, sem_state}
use Rattle.rt_model.specs.Past.{Past}
use Rattle.rt_model.specs.Reachable.{IsReachable}
use Rattle.rt_model.specs.Releases.{exists, ready}
use Rattle.rt_model.specs.Sleep.{sleeps}
use Rattle.rt_model.specs.Tops.{eligible, is_admitted, is_served, ranking, top}
use Rattle.rt_rules.proofs.BoolLaws.{both, clash, either, neither, not_true, or_true}
use Rattle.rt_rules.proofs.KeyLaws.{higher-falls, highest-above, highest-of, highest-owner}
use Rattle.rt_rules.proofs.MemberLaws.{equal_self, has-filter, has-first, some-is}
use Rattle.rt_rules.proofs.PairLaws.{has_pair, has_pair-append, tasks_of_pairs}
use Rattle.rt_rules.proofs.PcpLaws.{IsStacked, newest-other, passes-above_ceiling, passes-cons}
use Rattle.rt_rules.proofs.RankedLaws.{has-sorted, tasks_ranked}
use Rattle.rt_rules.proofs.RankingLaws.{cut-off, keys-map, keys-sorted, ranked-sorted}
use Rattle.rt_model.proofs.PastLaws.{links-top, processor-home}
use Rattle.rt_model.proofs.TopLaws.{tasks-ranked}
use Rattle.rt_laws.specs.BlockedOnce.{OneReaches, stays_ready, is_linked, is_lower, is_of_pcp, reaches}
use Rattle.rt_laws.proofs.jobs.Engaged.{holder-engaged}
use Rattle.rt_laws.proofs.jobs.EngagedJobs.{IsActive, all_active}
use Rattle.rt_laws.proofs.GroupLaws.{home-tasks_of, user-task}
use Rattle.rt_laws.proofs.semaphores.Holding.{holds-one}
use Rattle.rt_laws.proofs.pcp.PcpState.{IsPcpKept, IsUser, pcp-first, pcp-holder, pcp_kept, sem-home, user-not_over}
use Rattle.rt_laws.proofs.pcp.PcpWalks.{newest-blocks, waiting-stops, walk-none, walk-step, walk-stops}
use Rattle.rt_laws.proofs.Rules.{MeetsRules}
use Rattle.rt_laws.proofs.ValidSets.{rules_of}
use Rattle.rt_laws.proofs.semaphores.Waiting.{awaits-waits}

-- ---- pairs of a task and a semaphore

-- a pair of the task that passes a test
pub any-pair : (u : ℕ) (test : ℕ → Bool) (ps : List TaskSem) → list_any (λ (p : TaskSem). p.task == u && test p.sem) ps ≡ true → (s : ℕ) × (has_pair u s ps ≡ true) × (test s ≡ true)
any-pair u test [] h = cc
any-pair u test (p ∷ ps) h = split (either (p.task == u && test p.sem) _ h) (any-pair u test ps)
  where
    split : (p.task == u && test p.sem ≡ true) ⊎ (list_any (λ (q : TaskSem). q.task == u && test q.sem) ps ≡ true) → (list_any (λ (q : TaskSem). q.task == u && test q.sem) ps ≡ true → (s : ℕ) × (has_pair u s ps ≡ true) × (test s ≡ true)) → (s : ℕ) × (has_pair u s (p ∷ ps) ≡ true) × (test s ≡ true)
    split (inl m) r = let q = both (p.task == u) (test p.sem) m in let same : p.task ≡ u = eqb-true p.task u q.0 in (p.sem, rw (← same, equal_self p.task, equal_self p.sem), q.1)
    split (inr m) r = let q = r m in (q.0, rw q.1 (or_true (u == p.task && q.0 == p.sem)), q.2)

pub pair-any : (u s : ℕ) (test : ℕ → Bool) (ps : List TaskSem) → has_pair u s ps ≡ true → test s ≡ true → list_any (λ (p : TaskSem). p.task == u && test p.sem) ps ≡ true
pair-any u s test [] h k = cc
pair-any u s test (p ∷ ps) h k = split (either (u == p.task && s == p.sem) _ h) (pair-any u s test ps)
  where
    split : (u == p.task && s == p.sem ≡ true) ⊎ (has_pair u s ps ≡ true) → (has_pair u s ps ≡ true → test s ≡ true → list_any (λ (q : TaskSem). q.task == u && test q.sem) ps ≡ true) → (p.task == u && test p.sem) || list_any (λ (q : TaskSem). q.task == u && test q.sem) ps ≡ true
    split (inl m) r = let q = both (u == p.task) (s == p.sem) m in let a : u ≡ p.task = eqb-true u p.task q.0 in let b : s ≡ p.sem = eqb-true s p.sem q.1 in rw (a, equal_self p.task, ← b, k)
    split (inr m) r = rw (r m k) (or_true (p.task == u && test p.sem))

-- ---- how many pairs pass a test

abbrev pub count_of : (TaskSem → Bool) → List TaskSem → ℕ
count_of test ps = length (filter test ps)

pub pair-counted : (test : TaskSem → Bool) (v s : ℕ) (ps : List TaskSem) → has_pair v s ps ≡ true → test (record { task = v; sem = s }) ≡ true → 1 ≤ count_of test ps
pair-counted test v s [] h k = cc
pair-counted test v s (p ∷ ps) h k = by_case (test p) refl (either (v == p.task && s == p.sem) _ h) (pair-counted test v s ps)
  where
    by_case : (b : Bool) → test p ≡ b → (v == p.task && s == p.sem ≡ true) ⊎ (has_pair v s ps ≡ true) → (has_pair v s ps ≡ true → test (record { task = v; sem = s }) ≡ true → 1 ≤ count_of test ps) → 1 ≤ length (cond b (p ∷ filter test ps) (filter test ps))
    by_case true e m r = omega arith
    by_case false e (inl m) r =
        let q = both (v == p.task) (s == p.sem) m in
        let a : v ≡ p.task = eqb-true v p.task q.0 in
        let b : s ≡ p.sem = eqb-true s p.sem q.1 in
        let same : test p ≡ true = rw (a, b) at k in
        absurd (clash _ same e)
    by_case false e (inr m) r = r m k

count-append : (test : TaskSem → Bool) (ps : List TaskSem) (p : TaskSem) → test p ≡ false → count_of test (ps ++ p ∷ []) ≡ count_of test ps
count-append test [] p h = rw h
count-append test (q ∷ qs) p h = by_case (test q) (count-append test qs p h)
  where
    by_case : (b : Bool) → count_of test (qs ++ p ∷ []) ≡ count_of test qs → length (cond b (q ∷ filter test (qs ++ p ∷ [])) (filter test (qs ++ p ∷ []))) ≡ length (cond b (q ∷ filter test qs) (filter test qs))
    by_case true r = ap suc r
    by_case false r = r

count-without : (test : TaskSem → Bool) (q : TaskSem) (ps : List TaskSem) → count_of test (without_pair q ps) ≤ count_of test ps
count-without test q [] = omega arith
count-without test q (p ∷ ps) = by_case (is_same_pair q p) (test p) refl (count-without test q ps)
  where
    by_case : (a b : Bool) → test p ≡ b → count_of test (without_pair q ps) ≤ count_of test ps → count_of test (cond (not a) (p ∷ without_pair q ps) (without_pair q ps)) ≤ length (cond b (p ∷ filter test ps) (filter test ps))
    by_case true true e r = omega (arith, r)
    by_case true false e r = r
    by_case false true e r = rw e (omega (arith, r))
    by_case false false e r = rw e r

count-taken : (test : TaskSem → Bool) (v s : ℕ) (q : TaskSem) (ps : List TaskSem) → has_pair v s ps ≡ true → test (record { task = v; sem = s }) ≡ true → has_pair v s (without_pair q ps) ≡ false → count_of test (without_pair q ps) + 1 ≤ count_of test ps
count-taken test v s q [] h k n = cc
count-taken test v s q (p ∷ ps) h k n = by_case (is_same_pair q p) (test p) refl n (either (v == p.task && s == p.sem) _ h) (count-without test q ps) (count-taken test v s q ps)
  where
    same : v == p.task && s == p.sem ≡ true → test p ≡ true
    same m =
        let w = both (v == p.task) (s == p.sem) m in
        let a : v ≡ p.task = eqb-true v p.task w.0 in
        let b : s ≡ p.sem = eqb-true s p.sem w.1 in
        rw (a, b) at k

    by_case : (a b : Bool) → test p ≡ b → has_pair v s (cond (not a) (p ∷ without_pair q ps) (without_pair q ps)) ≡ false → (v == p.task && s == p.sem ≡ true) ⊎ (has_pair v s ps ≡ true) → count_of test (without_pair q ps) ≤ count_of test ps → (has_pair v s ps ≡ true → test (record { task = v; sem = s }) ≡ true → has_pair v s (without_pair q ps) ≡ false → count_of test (without_pair q ps) + 1 ≤ count_of test ps) → count_of test (cond (not a) (p ∷ without_pair q ps) (without_pair q ps)) + 1 ≤ length (cond b (p ∷ filter test ps) (filter test ps))
    by_case true true e m w c r = omega (arith, c)
    by_case true false e m (inl w) c r = absurd (clash _ (same w) e)
    by_case true false e m (inr w) c r = r w k m
    by_case false b e m (inl w) c r = absurd (clash _ w (neither (v == p.task && s == p.sem) _ m).0)
    by_case false true e m (inr w) c r = let z = r w k (neither (v == p.task && s == p.sem) _ m).1 in rw e (omega (arith, z))
    by_case false false e m (inr w) c r = rw e (r w k (neither (v == p.task && s == p.sem) _ m).1)

count-tested : (test : TaskSem → Bool) (over : ℕ → ℕ → Bool) (ps : List TaskSem) (l : PcpState) → count_of test (tested over ps l).waiting ≤ count_of test l.waiting
count-tested test over [] l = omega arith
count-tested test over (p ∷ ps) l = by_case (passes over l.held p.task) (count-tested test over ps (granted p l)) (count-tested test over ps l)
  where
    by_case : (b : Bool) → count_of test (tested over ps (granted p l)).waiting ≤ count_of test (without_pair p l.waiting) → count_of test (tested over ps l).waiting ≤ count_of test l.waiting → count_of test (tested over ps (if b then granted p l else l)).waiting ≤ count_of test l.waiting
    by_case true r k = omega (arith, r, count-without test p l.waiting)
    by_case false r k = k

count-tested_taken : (test : TaskSem → Bool) (over : ℕ → ℕ → Bool) (v s : ℕ) (ps : List TaskSem) (l : PcpState) → has_pair v s l.waiting ≡ true → test (record { task = v; sem = s }) ≡ true → has_pair v s (tested over ps l).waiting ≡ false → count_of test (tested over ps l).waiting + 1 ≤ count_of test l.waiting
count-tested_taken test over v s [] l h k n = absurd (clash _ h n)
count-tested_taken test over v s (p ∷ ps) l h k n = by_case (passes over l.held p.task) n (count-tested test over ps (granted p l)) (count-tested_taken test over v s ps (granted p l)) (count-tested_taken test over v s ps l)
  where
    by_case : (b : Bool) → has_pair v s (tested over ps (if b then granted p l else l)).waiting ≡ false → count_of test (tested over ps (granted p l)).waiting ≤ count_of test (without_pair p l.waiting) → (has_pair v s (without_pair p l.waiting) ≡ true → test (record { task = v; sem = s }) ≡ true → has_pair v s (tested over ps (granted p l)).waiting ≡ false → count_of test (tested over ps (granted p l)).waiting + 1 ≤ count_of test (without_pair p l.waiting)) → (has_pair v s l.waiting ≡ true → test (record { task = v; sem = s }) ≡ true → has_pair v s (tested over ps l).waiting ≡ false → count_of test (tested over ps l).waiting + 1 ≤ count_of test l.waiting) → count_of test (tested over ps (if b then granted p l else l)).waiting + 1 ≤ count_of test l.waiting
    by_case true m c r z = there (has_pair v s (without_pair p l.waiting)) refl
      where
        there : (a : Bool) → has_pair v s (without_pair p l.waiting) ≡ a → count_of test (tested over ps (granted p l)).waiting + 1 ≤ count_of test l.waiting
        there true e = omega (arith, r e k m, count-without test p l.waiting)
        there false e = omega (arith, c, count-taken test v s p l.waiting h k e)
    by_case false m c r z = z h k m

-- an act lets no more wait, where no one of those counted is queued
pub count-after : (test : TaskSem → Bool) (before over : ℕ → ℕ → Bool) (x : SemAct) (l : PcpState) → ((u r : ℕ) → x ≡ Asks u r → passes over l.held u ≡ false → test (record { task = u; sem = r }) ≡ false) → count_of test (pcp_after before over x l).waiting ≤ count_of test l.waiting
count-after test before over (Asks u r) l queued = by_case (passes over l.held u) refl
  where
    by_case : (b : Bool) → passes over l.held u ≡ b → count_of test (cond b (record l { held = record { task = u; sem = r } ∷ l.held }) (record l { waiting = l.waiting ++ record { task = u; sem = r } ∷ [] })).waiting ≤ count_of test l.waiting
    by_case true e = omega arith
    by_case false e = omega (arith, count-append test l.waiting (record { task = u; sem = r }) (queued u r refl e))
count-after test before over (Frees u r) l queued = count-tested test over (in_order before l.waiting) (record l { held = without_pair (record { task = u; sem = r }) l.held })
count-after test before over Neither l queued = omega arith

-- an act that grants one of those counted leaves one less
pub count-granted : (test : TaskSem → Bool) (before over : ℕ → ℕ → Bool) (v s : ℕ) (x : SemAct) (l : PcpState) → has_pair v s l.waiting ≡ true → test (record { task = v; sem = s }) ≡ true → has_pair v s (pcp_after before over x l).waiting ≡ false → count_of test (pcp_after before over x l).waiting + 1 ≤ count_of test l.waiting
count-granted test before over v s (Asks u r) l h k n = absurd (by_case (passes over l.held u) n)
  where
    by_case : (b : Bool) → has_pair v s (cond b (record l { held = record { task = u; sem = r } ∷ l.held }) (record l { waiting = l.waiting ++ record { task = u; sem = r } ∷ [] })).waiting ≡ false → ⊥
    by_case true m = clash _ h m
    by_case false m = let gone = neither (has_pair v s l.waiting) _ (rw has_pair-append at m) in clash _ h gone.0
count-granted test before over v s (Frees u r) l h k n = count-tested_taken test over v s (in_order before l.waiting) (record l { held = without_pair (record { task = u; sem = r }) l.held }) h k n
count-granted test before over v s Neither l h k n = absurd (clash _ h n)

pub pair-task : (u s : ℕ) (ps : List TaskSem) → has_pair u s ps ≡ true → has u (tasks_of_pairs ps) ≡ true
pair-task u s [] h = cc
pair-task u s (p ∷ ps) h = split (either (u == p.task && s == p.sem) _ h) (pair-task u s ps)
  where
    split : (u == p.task && s == p.sem ≡ true) ⊎ (has_pair u s ps ≡ true) → (has_pair u s ps ≡ true → has u (tasks_of_pairs ps) ≡ true) → u == p.task || has u (tasks_of_pairs ps) ≡ true
    split (inl m) r = rw (both (u == p.task) (s == p.sem) m).0
    split (inr m) r = rw (r m) (or_true (u == p.task))

-- who does not pass is stopped by a pair
pub stopped-by : (over : ℕ → ℕ → Bool) (t : ℕ) (ps : List TaskSem) → passes over ps t ≡ false → (y : ℕ) × (r : ℕ) × (has_pair y r ps ≡ true) × (over t r ≡ false)
stopped-by over t [] h = cc
stopped-by over t (p ∷ ps) h = by_case (p.task == t || over t p.sem) refl (passes over ps t) refl (rw passes-cons at h) (stopped-by over t ps)
  where
    by_case : (b : Bool) → p.task == t || over t p.sem ≡ b → (c : Bool) → passes over ps t ≡ c → b && c ≡ false → (passes over ps t ≡ false → (y : ℕ) × (r : ℕ) × (has_pair y r ps ≡ true) × (over t r ≡ false)) → (y : ℕ) × (r : ℕ) × (has_pair y r (p ∷ ps) ≡ true) × (over t r ≡ false)
    by_case false e c f m rec = (p.task, p.sem, rw (equal_self p.task, equal_self p.sem), (neither (p.task == t) _ e).1)
    by_case true e false f m rec = let q = rec f in (q.0, q.1, rw q.2 (or_true (q.0 == p.task && q.1 == p.sem)), q.3)
    by_case true e true f m rec = cc

-- of the holders that are low, one has a semaphore that t is not over
one_under :
    (over : ℕ → ℕ → Bool) (t : ℕ) (low : ℕ → Bool) → ((w s : ℕ) → low w ≡ true → over w s ≡ true → over t s ≡ true) → (ps : List TaskSem)
    → IsStacked over ps → (u v r s : ℕ) → low u ≡ true → low v ≡ true → has_pair u r ps ≡ true → has_pair v s ps ≡ true
    → over t r ≡ false → over t s ≡ false → u ≡ v
one_under over t low under [] k u v r s lu lv hu hv nr ns = cc
one_under over t low under (p ∷ ps) k u v r s lu lv hu hv nr ns = split (either (u == p.task && r == p.sem) _ hu) (either (v == p.task && s == p.sem) _ hv) (one_under over t low under ps k.1 u v r s lu lv)
  where
    newer : (a b x : ℕ) → a ≡ p.task → low a ≡ true → has_pair b x ps ≡ true → over t x ≡ false → a ≡ b
    newer a b x e la hb nx = by_case (b == a) refl
      where
        by_case : (c : Bool) → b == a ≡ c → a ≡ b
        by_case true m = sym (eqb-true b a m)
        by_case false m = absurd (clash _ (under a x la (passes-above_ceiling over ps a b x (rw e k.0) hb m)) nx)

    head_of : (a x : ℕ) → a == p.task && x == p.sem ≡ true → a ≡ p.task
    head_of a x m = eqb-true a p.task (both (a == p.task) (x == p.sem) m).0

    split : (u == p.task && r == p.sem ≡ true) ⊎ (has_pair u r ps ≡ true) → (v == p.task && s == p.sem ≡ true) ⊎ (has_pair v s ps ≡ true) → (has_pair u r ps ≡ true → has_pair v s ps ≡ true → over t r ≡ false → over t s ≡ false → u ≡ v) → u ≡ v
    split (inl m) (inl n) rec = head_of u r m ∙ sym (head_of v s n)
    split (inl m) (inr n) rec = newer u v s (head_of u r m) lu n ns
    split (inr m) (inl n) rec = sym (newer v u r (head_of v s n) lv m nr)
    split (inr m) (inr n) rec = rec m n nr ns

-- ---- at a moment

is_true-not : (b : Bool) → not b ≡ true → b ≡ false
is_true-not b h = not_true b h

-- what a lower task is above, t is above
lower-above : (g : Group) (t w s : ℕ) → is_lower g t w ≡ true → above_ceiling g w s ≡ true → above_ceiling g t s ≡ true
unfolding is_lower above above_ceiling
lower-above g t w s low h = higher-transitive (base_key g t []) (base_key g w []) (ceiling g s) (both (home g w == home g t) _ low).1 h

pub reaching-pair : (g : Group) (t u : ℕ) (past : Past) → reaches g t u past ≡ true → (s : ℕ) × (has_pair u s (pcp g (home g t) past).held ≡ true) × (above_ceiling g t s ≡ false)
unfolding reaches
reaching-pair g t u past h = let q = any-pair u (λ s. not (above_ceiling g t s)) (pcp g (home g t) past).held h in (q.0, q.1, not_true _ q.2)

pub pair-reaches : (g : Group) (t u s : ℕ) (past : Past) → has_pair u s (pcp g (home g t) past).held ≡ true → above_ceiling g t s ≡ false → reaches g t u past ≡ true
unfolding reaches
pair-reaches g t u s past h k = pair-any u s (λ r. not (above_ceiling g t r)) (pcp g (home g t) past).held h (rw k)

pub one_reaches_of : (g : Group) → MeetsRules g → {past : Past} → IsReachable g past → (t u v : ℕ) → is_lower g t u ≡ true → is_lower g t v ≡ true → reaches g t u past ≡ true → reaches g t v past ≡ true → u ≡ v
one_reaches_of g rules {past} made t u v lu lv hu hv =
    let a = reaching-pair g t u past hu in
    let b = reaching-pair g t v past hv in
    one_under (above_ceiling g) t (λ w. is_lower g t w) (λ w s. lower-above g t w s) (pcp g (home g t) past).held (pcp_kept g rules (home g t) made).stack.stacked u v a.0 b.0 lu lv a.1 b.1 a.2 b.2

pub one_reaches : OneReaches
one_reaches g past valid made t u v lu lv hu hv = one_reaches_of g (rules_of g valid) made t u v lu lv hu hv

-- ---- keys under P-FP

pub pcp-plugin : (p : PluginKind) (x : Protocol) → is_pcp x ≡ true → stands_under x p ≡ true → p ≡ plugins.PFp
pcp-plugin plugins.PFp Pcp h k = refl
pcp-plugin p Pcp h k = cc
pcp-plugin p x h k = cc

base-fixed : (g : Group) (t : ℕ) (past : Past) → g.setup.plugin ≡ plugins.PFp → base_key g t past ≡ base_key g t []
unfolding base_key key_by
base-fixed g t past p = rw p

fp-served : (g : Group) (t : ℕ) (past : Past) (p : PluginKind) → p ≡ plugins.PFp → is_served g p t past ≡ true
unfolding is_served
fp-served g t past p e = rw e

fp-admitted : (g : Group) (t : ℕ) (past : Past) (p : PluginKind) → p ≡ plugins.PFp → is_admitted g p t past ≡ true
unfolding is_admitted
fp-admitted g t past p e = rw e

-- no base key is above a boost
boost-above : (g : Group) (x : Protocol) (s w t : ℕ) (past : Past) (us : List ℕ) → g.setup.plugin ≡ plugins.PFp
    → higher (base_key g t past) (inherited None (λ v. base_key g v past) us w) ≡ false
    → higher (base_key g t past) (inherited (boost_by g x s w past) (λ v. base_key g v past) us w) ≡ false
unfolding boost_by base_key key_by
boost-above g Fmlp s w t past us p h = rw p
boost-above g Mpcp s w t past us p h = rw p
boost-above g Omlp s w t past us p h = h
boost-above g Pcp s w t past us p h = h
boost-above g Srp s w t past us p h = h

-- no base key is above an effective key where it is not above what is inherited
at_least : (g : Group) (w t : ℕ) (past : Past) → g.setup.plugin ≡ plugins.PFp
    → higher (base_key g t past) (highest (base_key g w past) (map (λ v. base_key g v past) (followers (λ v. waits_for g v past) (tasks g) w))) ≡ false
    → higher (base_key g t past) (effective_key g w past) ≡ false
unfolding effective_key boost boost_of
at_least g w t past p h = by_first (first (holds g w past)) refl
  where
    by_first : (o : Option ℕ) → first (holds g w past) ≡ o → higher (base_key g t past) (inherited (boost_of g w o past) (λ v. base_key g v past) (followers (λ v. waits_for g v past) (tasks g) w) w) ≡ false
    by_first None e = h
    by_first (Some s) e = boost-above g (protocol g s) s w t past (followers (λ v. waits_for g v past) (tasks g) w) p h

-- who holds PCP semaphores alone is not boosted
unboosted : (g : Group) (w : ℕ) (past : Past) → ((s : ℕ) → has s (holds g w past) ≡ true → is_pcp (protocol g s) ≡ true)
    → effective_key g w past ≡ highest (base_key g w past) (map (λ v. base_key g v past) (followers (λ v. waits_for g v past) (tasks g) w))
unfolding effective_key boost boost_of boost_by
unboosted g w past h = by_first (first (holds g w past)) refl
  where
    by_protocol : (x : Protocol) (s : ℕ) → is_pcp x ≡ true → inherited (boost_by g x s w past) (λ v. base_key g v past) (followers (λ v. waits_for g v past) (tasks g) w) w ≡ highest (base_key g w past) (map (λ v. base_key g v past) (followers (λ v. waits_for g v past) (tasks g) w))
    by_protocol Pcp s k = refl
    by_protocol Fmlp s k = cc
    by_protocol Omlp s k = cc
    by_protocol Mpcp s k = cc
    by_protocol Srp s k = cc

    by_first : (o : Option ℕ) → first (holds g w past) ≡ o → inherited (boost_of g w o past) (λ v. base_key g v past) (followers (λ v. waits_for g v past) (tasks g) w) w ≡ highest (base_key g w past) (map (λ v. base_key g v past) (followers (λ v. waits_for g v past) (tasks g) w))
    by_first None e = refl
    by_first (Some s) e = by_protocol (protocol g s) s (h s (has-first s (holds g w past) (some-is s (first (holds g w past)) e)))

take-one : (n : ℕ) (xs : List ℕ) (a b : ℕ) → n ≡ 1 → has a (take n xs) ≡ true → has b (take n xs) ≡ true → a ≡ b
take-one n xs a b e h k = one xs (rw e at h) (rw e at k)
  where
    one : (ys : List ℕ) → has a (take 1 ys) ≡ true → has b (take 1 ys) ≡ true → a ≡ b
    one [] m l = cc
    one (y ∷ ys) m l = eqb-true a y (or_false' (a == y) m) ∙ sym (eqb-true b y (or_false' (b == y) l))
      where
        or_false' : (c : Bool) → c || false ≡ true → c ≡ true
        or_false' true q = refl
        or_false' false q = cc

module _ (g : Group) (rules : MeetsRules g) (past : Past) (made : IsReachable g past) where
  -- a pair that is held under PCP
  pub record IsHeld (c u s : ℕ) : Type 0 where
    pub user : IsUser g c u s
    pub member : has u (tasks g) ≡ true
    pub known : has s (sems g) ≡ true
    pub holds_it : is u (holder g s past) ≡ true
    pub exists_now : exists g u past ≡ true
    pub awake : sleeps u past ≡ false
    pub plugin : g.setup.plugin ≡ plugins.PFp

  pub held-facts : (c u s : ℕ) → has_pair u s (pcp g c past).held ≡ true → IsHeld c u s
  held-facts c u s h = record { user = who; member = d.0; known = known; holds_it = holds_it; exists_now = active.exists_now; awake = active.awake; plugin = pcp-plugin g.setup.plugin (protocol g s) who.of_pcp (rules.is_allowed s known) }
    where
      kept : IsPcpKept g c (pcp g c past)
      kept = pcp_kept g rules c made

      who : IsUser g c u s
      who = kept.held u s h

      d : (has u (tasks g) ≡ true) × (declares g u s ≡ true)
      d = user-task g s u who.user

      known : has s (sems g) ≡ true
      known = rules.is_known u s d.0 d.1

      holds_it : is u (holder g s past) ≡ true
      holds_it = rw (pcp-holder g s past who.of_pcp) (subst (λ n. is u (first (of_sem s (pcp g n past).held)) ≡ true) (sym (sem-home g rules c u s who)) (pcp-first g c u s (pcp g c past) kept h))

      active : IsActive g u s past
      active = all_active g rules made u s known (holder-engaged g u s past holds_it)

  -- v owns the newest grant of the cluster of t, and holds a semaphore whose ceiling t is not above
  pub record Stops (t v : ℕ) : Type 0 where
    pub newest : TaskSem
    pub older : List TaskSem
    pub held : (pcp g (home g t) past).held ≡ newest ∷ older
    pub owner : newest.task ≡ v
    pub reached : reaches g t v past ≡ true

  -- a task that is no lower than t is stopped by the owner of the newest grant, which is lower than t
  stopper : (t v x : ℕ) → is_lower g t v ≡ true → higher (base_key g t []) (base_key g x []) ≡ false
      → (p : TaskSem) (ps : List TaskSem) → (pcp g (home g t) past).held ≡ p ∷ ps → p.task ≡ v → passes (above_ceiling g) (p ∷ ps) x ≡ false → Stops t v
  unfolding above_ceiling
  stopper t v x low no_lower p ps e own stops = record { newest = p; older = ps; held = e; owner = own; reached = by_case (y == v) refl }
    where
      q : (y : ℕ) × (r : ℕ) × (has_pair y r (p ∷ ps) ≡ true) × (above_ceiling g x r ≡ false)
      q = stopped-by (above_ceiling g) x (p ∷ ps) stops

      y : ℕ
      y = q.0

      r : ℕ
      r = q.1

      under : above_ceiling g t r ≡ false
      under = higher-falls (ceiling g r) (base_key g x []) (base_key g t []) q.3 no_lower

      stacked : IsStacked (above_ceiling g) (p ∷ ps)
      stacked = subst (λ l. IsStacked (above_ceiling g) l) e (pcp_kept g rules (home g t) made).stack.stacked

      older_pair : y == v ≡ false → (y == p.task && r == p.sem ≡ true) ⊎ (has_pair y r ps ≡ true) → has_pair y r ps ≡ true
      older_pair n (inl m) = let same : y ≡ p.task = eqb-true y p.task (both (y == p.task) _ m).0 in let w : y == v ≡ true = rw (same, own, equal_self v) in absurd (clash _ w n)
      older_pair n (inr m) = m

      by_case : (b : Bool) → y == v ≡ b → reaches g t v past ≡ true
      by_case true n = let same : y ≡ v = eqb-true y v n in pair-reaches g t v r past (subst (λ n. has_pair n r (pcp g (home g t) past).held ≡ true) same (rw e q.2)) under
      by_case false n =
          let there : has_pair y r ps ≡ true = older_pair n (either (y == p.task && r == p.sem) _ q.2) in
          let over : above_ceiling g v r ≡ true = passes-above_ceiling (above_ceiling g) ps v y r (rw own at stacked.0) there n in
          absurd (clash _ (lower-above g t v r low over) under)

  -- ---- who is linked in the place of a job that goes on

  next-other : (y s : ℕ) → awaits g y past ≡ Some s → is_pcp (protocol g s) ≡ false → waits_for g y past ≡ holder g s past
  unfolding waits_for next_at next_by
  next-other y s e n = rw e (by_protocol (protocol g s) n)
    where
      by_protocol : (x : Protocol) → is_pcp x ≡ false → next_by g x s y past ≡ holder g s past
      by_protocol Fmlp k = refl
      by_protocol Omlp k = refl
      by_protocol Mpcp k = refl
      by_protocol Pcp k = cc
      by_protocol Srp k = refl

  next-pcp : (y s : ℕ) → awaits g y past ≡ Some s → is_pcp (protocol g s) ≡ true → waits_for g y past ≡ blocker_among g (of_others y (pcp g (home g y) past).held)
  unfolding waits_for next_at next_by blocker
  next-pcp y s e n = rw e (by_protocol (protocol g s) n)
    where
      by_protocol : (x : Protocol) → is_pcp x ≡ true → next_by g x s y past ≡ blocker_among g (of_others y (pcp g (home g y) past).held)
      by_protocol Pcp k = refl
      by_protocol Fmlp k = cc
      by_protocol Omlp k = cc
      by_protocol Mpcp k = cc
      by_protocol Srp k = cc

  -- the owner of the newest grant, for which a task waits
  record HasNewest (y u : ℕ) : Type 0 where
    newest : TaskSem
    older : List TaskSem
    held : (pcp g (home g y) past).held ≡ newest ∷ older
    owner : newest.task ≡ u
    stops : passes (above_ceiling g) (newest ∷ older) y ≡ false

  has_newest : (y s u : ℕ) → awaits g y past ≡ Some s → is_pcp (protocol g s) ≡ true → waits_for g y past ≡ Some u → HasNewest y u
  has_newest y s u e n w = by_held (pcp g (home g y) past).held refl
    where
      waits : (has s (sems g) ≡ true) × (has y (sem_state g s past).waiting ≡ true)
      waits = awaits-waits g y s past e

      kept : IsPcpKept g (home g y) (pcp g (home g y) past)
      kept = pcp_kept g rules (home g y) made

      fails : passes (above_ceiling g) (pcp g (home g y) past).held y ≡ false
      fails = waiting-stops g rules past made y s n waits.1

      some_same : (a b : ℕ) → Some a ≡ Some b → a ≡ b
      some_same a b k = cc

      by_held : (l : List TaskSem) → (pcp g (home g y) past).held ≡ l → HasNewest y u
      by_held [] k = let m : passes (above_ceiling g) [] y ≡ false = subst (λ l. passes (above_ceiling g) l y ≡ false) k fails in cc
      by_held (p ∷ ps) k =
          let low = subst (λ l. (a r : ℕ) → has_pair a r l ≡ true → above_ceiling g a r ≡ false) k (λ a r m. user-not_over g a r (kept.held a r m).user) in
          let stops_here : passes (above_ceiling g) (p ∷ ps) y ≡ false = subst (λ l. passes (above_ceiling g) l y ≡ false) k fails in
          let newest : blocker_among g (of_others y (p ∷ ps)) ≡ Some p.task = newest-blocks g y p ps (subst (λ l. IsStacked (above_ceiling g) l) k kept.stack.stacked) low stops_here in
          let next : waits_for g y past ≡ Some p.task = next-pcp y s e n ∙ subst (λ l. blocker_among g (of_others y l) ≡ Some p.task) (sym k) newest in
          record { newest = p; older = ps; held = k; owner = some_same p.task u (sym next ∙ w); stops = stops_here }

  -- a walk from a follower is one step long
  follows : (y v : ℕ) → has y (followers (λ x. waits_for g x past) (tasks g) v) ≡ true → (s : ℕ) × (awaits g y past ≡ Some s) × (waits_for g y past ≡ Some v)
  follows y v h = by_wait (awaits g y past) refl
    where
      reached : has v (walk (λ x. waits_for g x past) (length (tasks g)) (waits_for g y past)) ≡ true
      reached = (both (has y (tasks g)) (has v (walk (λ x. waits_for g x past) (length (tasks g)) (waits_for g y past))) (rw has-filter at h)).1

      none : waits_for g y past ≡ None → ⊥
      none e = let m : has v [] ≡ true = rw (e, walk-none (λ x. waits_for g x past) (length (tasks g))) at reached in cc

      one : (u : ℕ) → awaits g u past ≡ None → (n : ℕ) → has v (walk (λ x. waits_for g x past) n (Some u)) ≡ true → v ≡ u
      one u free zero m = cc
      one u free (suc n) m = last (either (v == u) _ m)
        where
          last : (v == u ≡ true) ⊎ (has v (walk (λ x. waits_for g x past) n (waits_for g u past)) ≡ true) → v ≡ u
          last (inl k) = eqb-true v u k
          last (inr k) = let z : has v [] ≡ true = rw (walk-stops g rules past made u free, walk-none (λ x. waits_for g x past) n) at k in cc

      by_wait : (o : Option ℕ) → awaits g y past ≡ o → (s : ℕ) × (awaits g y past ≡ Some s) × (waits_for g y past ≡ Some v)
      by_wait None e = absurd (none (walk-stops g rules past made y e))
      by_wait (Some s) e =
          let q = walk-step g rules past made y s e in
          let same : v ≡ q.0 = one q.0 q.2 (length (tasks g)) (rw q.1 at reached) in
          (s, e, rw same q.1)

  -- v is linked over t by what it inherits under PCP
  inherits : (t v : ℕ) → is_lower g t v ≡ true → g.setup.plugin ≡ plugins.PFp → ((s : ℕ) → has s (holds g v past) ≡ true → is_pcp (protocol g s) ≡ true)
      → higher (base_key g t past) (effective_key g v past) ≡ false → Stops t v
  unfolding is_lower above
  inherits t v low p only lifted = by_owner q.1
    where
      q : (y : ℕ) × ((y ≡ v) ⊎ (has y (followers (λ x. waits_for g x past) (tasks g) v) ≡ true)) × (highest (base_key g v past) (map (λ x. base_key g x past) (followers (λ x. waits_for g x past) (tasks g) v)) ≡ base_key g y past)
      q = highest-owner (λ x. base_key g x past) v (followers (λ x. waits_for g x past) (tasks g) v)

      y : ℕ
      y = q.0

      lower : (home g v == home g t ≡ true) × (higher (base_key g t []) (base_key g v []) ≡ true)
      lower = both (home g v == home g t) _ low

      key_is : effective_key g v past ≡ base_key g y []
      key_is = unboosted g v past only ∙ q.2 ∙ base-fixed g y past p

      no_lower : higher (base_key g t []) (base_key g y []) ≡ false
      no_lower = rw (← base-fixed g t past p, ← key_is) lifted

      at_sem : (s : ℕ) → awaits g y past ≡ Some s → waits_for g y past ≡ Some v → (b : Bool) → is_pcp (protocol g s) ≡ b → Stops t v
      at_sem s e w false n = let a = awaits-waits g y s past e in absurd (clash _ (only s (holds-one g v s past a.0 (some-is v (holder g s past) (sym (next-other y s e n) ∙ w)))) n)
      at_sem s e w true n =
          let new : HasNewest y v = has_newest y s v e n w in
          let there : has_pair new.newest.task new.newest.sem (pcp g (home g y) past).held ≡ true = rw (new.held, equal_self new.newest.task, equal_self new.newest.sem) in
          let at : home g new.newest.task ≡ home g y = (held-facts (home g y) new.newest.task new.newest.sem there).user.at_home in
          let home_is : home g y ≡ home g t = sym at ∙ ap (home g) new.owner ∙ eqb-true (home g v) (home g t) lower.0 in
          stopper t v y low no_lower new.newest new.older (subst (λ c. (pcp g c past).held ≡ new.newest ∷ new.older) home_is new.held) new.owner new.stops

      by_owner : (y ≡ v) ⊎ (has y (followers (λ x. waits_for g x past) (tasks g) v) ≡ true) → Stops t v
      by_owner (inl e) = absurd (clash _ (rw e lower.1) no_lower)
      by_owner (inr k) = let f = follows y v k in at_sem f.0 f.1 f.2 (is_pcp (protocol g f.0)) refl

  -- a task that is eligible, and whose effective key is no lower than the base key of t
  record StandsFor (t w : ℕ) : Type 0 where
    there : has w (tasks_of g (home g t)) ≡ true
    may_run : eligible g w past ≡ true
    no_lower : higher (base_key g t past) (effective_key g w past) ≡ false

  ready-eligible : (w : ℕ) → g.setup.plugin ≡ plugins.PFp → ready g w past ≡ true → awaits g w past ≡ None → eligible g w past ≡ true
  unfolding eligible
  ready-eligible w p h e = rw (h, e, fp-served g w past g.setup.plugin p, fp-admitted g w past g.setup.plugin p)

  is_ready : (w : ℕ) → exists g w past ≡ true → sleeps w past ≡ false → ready g w past ≡ true
  unfolding ready
  is_ready w a b = rw (a, b)

  -- while its job goes on there is one: itself, or the one for which it waits
  stands_for : (t : ℕ) → has t (tasks g) ≡ true → g.setup.plugin ≡ plugins.PFp → stays_ready g t past ≡ true → (w : ℕ) × StandsFor t w
  unfolding stays_ready is_of_pcp
  stands_for t there p on = by_wait (awaits g t past) refl parts.1
    where
      parts : (ready g t past ≡ true) × (is_none (awaits g t past) || is_of_pcp g (awaits g t past) ≡ true)
      parts = both (ready g t past) _ on

      by_wait : (o : Option ℕ) → awaits g t past ≡ o → is_none o || is_of_pcp g o ≡ true → (w : ℕ) × StandsFor t w
      by_wait None e k = (
        t,
        record {
          there = home-tasks_of g t there;
          may_run = ready-eligible t p parts.0 e;
          no_lower = at_least g t t past p (highest-above (base_key g t past) (base_key g t past) (map (λ x. base_key g x past) (followers (λ x. waits_for g x past) (tasks g) t)) (higher-irreflexive (base_key g t past)));
        },
      )
      by_wait (Some s) e k = waits (walk-step g rules past made t s e)
        where
          waits : (u : ℕ) × (waits_for g t past ≡ Some u) × (awaits g u past ≡ None) → (w : ℕ) × StandsFor t w
          waits q =
              let new : HasNewest t q.0 = has_newest t s q.0 e k q.1 in
              let pair : has_pair new.newest.task new.newest.sem (pcp g (home g t) past).held ≡ true = rw (new.held, equal_self new.newest.task, equal_self new.newest.sem) in
              let f : IsHeld (home g t) new.newest.task new.newest.sem = held-facts (home g t) new.newest.task new.newest.sem pair in
              let ready_now : ready g new.newest.task past ≡ true = is_ready new.newest.task f.exists_now f.awake in
              let free : awaits g new.newest.task past ≡ None = subst (λ n. awaits g n past ≡ None) (sym new.owner) q.2 in
              let next : waits_for g t past ≡ Some new.newest.task = subst (λ n. waits_for g t past ≡ Some n) (sym new.owner) q.1 in (
                new.newest.task,
                record {
                  there = subst (λ c. has new.newest.task (tasks_of g c) ≡ true) f.user.at_home (home-tasks_of g new.newest.task f.member);
                  may_run = ready-eligible new.newest.task p ready_now free;
                  no_lower = at_least g new.newest.task t past p (highest-of (λ x. base_key g x past) t (followers (λ x. waits_for g x past) (tasks g) new.newest.task) (base_key g new.newest.task past) (is_follower new.newest.task next));
                },
              )
            where
              is_follower : (w : ℕ) → waits_for g t past ≡ Some w → has t (followers (λ x. waits_for g x past) (tasks g) w) ≡ true
              is_follower w n = rw (has-filter (λ x. has w (walk (λ v. waits_for g v past) (length (tasks g)) (waits_for g x past))) t (tasks g), there, n) (reached (tasks g) there)
                where
                  reached : (ts : List ℕ) → has t ts ≡ true → has w (walk (λ v. waits_for g v past) (length ts) (Some w)) ≡ true
                  reached [] m = cc
                  reached (x ∷ xs) m = rw (equal_self w)

  -- who is linked in a cluster of one processor has an effective key no lower than that
  linked-lifted : (t v : ℕ) → has t (tasks g) ≡ true → g.setup.plugin ≡ plugins.PFp → cpus g (home g t) ≡ 1 → stays_ready g t past ≡ true → is_linked g (home g t) v past ≡ true
      → higher (base_key g t past) (effective_key g v past) ≡ false
  unfolding is_linked top ranking
  linked-lifted t v there p one on linked = by_case (has w (top g c past)) refl
    where
      c : ℕ
      c = home g t

      q : (w : ℕ) × StandsFor t w
      q = stands_for t there p on

      w : ℕ
      w = q.0

      for_t : StandsFor t w
      for_t = q.1

      in_top : has v (top g c past) ≡ true
      in_top = sym (links-top g c (processor-home g c) made v) ∙ linked

      candidates : List ℕ
      candidates = filter (λ x. eligible g x past) (tasks_of g c)

      ranked : List Ranked
      ranked = sorted (map (λ x. record { key = effective_key g x past; task = x }) candidates)

      among : has w (tasks_ranked ranked) ≡ true
      among = has-sorted w (map (λ x. record { key = effective_key g x past; task = x }) candidates) ∙ rw (tasks-ranked g past candidates, has-filter (λ x. eligible g x past) w (tasks_of g c), for_t.there, for_t.may_run)

      top_is : top g c past ≡ take (cpus g c) (tasks_ranked ranked)
      top_is = refl

      by_case : (b : Bool) → has w (top g c past) ≡ b → higher (base_key g t past) (effective_key g v past) ≡ false
      by_case true k =
          let same : w ≡ v = take-one (cpus g c) (tasks_ranked ranked) w v one (rw top_is at k) (rw top_is at in_top) in
          subst (λ n. higher (base_key g t past) (effective_key g n past) ≡ false) same for_t.no_lower
      by_case false k =
          let behind : higher (effective_key g w past) (effective_key g v past) ≡ false = cut-off (λ x. effective_key g x past) (cpus g c) ranked w v (keys-sorted (λ x. effective_key g x past) (map (λ x. record { key = effective_key g x past; task = x }) candidates) (keys-map (λ x. effective_key g x past) candidates)) (ranked-sorted (map (λ x. record { key = effective_key g x past; task = x }) candidates)) among (rw top_is at k) (rw top_is at in_top) in
          higher-falls (effective_key g v past) (effective_key g w past) (base_key g t past) behind for_t.no_lower

  pub linked-stops : (t v : ℕ) → has t (tasks g) ≡ true → g.setup.plugin ≡ plugins.PFp → cpus g (home g t) ≡ 1 → stays_ready g t past ≡ true → is_lower g t v ≡ true
      → ((s : ℕ) → has s (holds g v past) ≡ true → is_pcp (protocol g s) ≡ true) → is_linked g (home g t) v past ≡ true → Stops t v
  linked-stops t v there p one on low only linked = inherits t v low p only (linked-lifted t v there p one on linked)

  -- who owns the newest grant passes
  pub stops-passes : (t v : ℕ) → Stops t v → passes (above_ceiling g) (pcp g (home g t) past).held v ≡ true
  stops-passes t v k = by_case (passes (above_ceiling g) (pcp g (home g t) past).held v) refl
    where
      by_case : (b : Bool) → passes (above_ceiling g) (pcp g (home g t) past).held v ≡ b → b ≡ true
      by_case true e = refl
      by_case false e =
          let stacked : IsStacked (above_ceiling g) (k.newest ∷ k.older) = subst (λ l. IsStacked (above_ceiling g) l) k.held (pcp_kept g rules (home g t) made).stack.stacked in
          absurd (clash _ (rw k.owner (equal_self v)) (newest-other (above_ceiling g) k.newest k.older v stacked (subst (λ l. passes (above_ceiling g) l v ≡ false) k.held e)))
