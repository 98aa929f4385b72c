-- Through the moves of a stretch it is one critical section that blocks a job.
use Rattle.std.proofs.Common.{Bool, List, [], arith, eqb-true, false, inl, inr, not, refl, subst, sym, true, ℕ, ◌&&◌, ◌+◌, ◌-◌, ◌≤◌, ◌||◌, ◌∙◌, ◌∷◌, ◌≡◌, ◌⊎◌}
use Rattle.std.specs.List.{list_any}
use Rattle.std.specs.Prelude.{None, Option, Some, if◌then◌else◌, ◌==◌}
use Rattle.rt_task.specs.RuleWords.{is_stacked, stands_under}
use Rattle.rt_task.specs.Validity.{IsValid}
use Rattle.rt_task.specs.declared.PluginKind.TheVariants as plugins
use Rattle.rt_task.specs.declared.PluginKind.{PluginKind}
use Rattle.rt_task.specs.declared.Protocol.TheVariants.{Fmlp, Mpcp, Omlp, Pcp, Srp}
use Rattle.rt_task.specs.declared.Protocol.{Protocol}
use Rattle.rt_rules.specs.Numbers.{has, is, same}
use Rattle.rt_rules.specs.Pcp.{passes, pcp_after}
use Rattle.rt_rules.specs.SemState.{Asks, Frees, Neither, SemAct}
use Rattle.rt_model.specs.Answers.{nests}
use Rattle.rt_model.specs.BaseKeys.{above}
use Rattle.rt_model.specs.Ceilings.{above_ceiling, at_cluster, is_pcp, pcp}
use Rattle.rt_model.specs.Group.{Group, cluster_with, cpus, first_cpu, home, protocol, sems, tasks}
use Rattle.rt_model.specs.Holders.{awaits, holder}
use Rattle.rt_model.specs.Links.{linked, links, pending}
use Rattle.rt_model.specs.Outcomes.{past_act}
use Rattle.rt_model.specs.Past.{Acted, Clock, Event, Past, sem_act}
use Rattle.rt_model.specs.Runs.{runs}
use Rattle.rt_model.specs.Reachable.{IsReachable, opened}
use Rattle.rt_rules.proofs.BoolLaws.{both, clash, either, neither, not_false, not_true, unless}
use Rattle.rt_rules.proofs.MemberLaws.{any-none, equal_self, is-some}
use Rattle.rt_rules.proofs.PairLaws.{has_pair, pair-of}
use Rattle.rt_rules.proofs.PcpLaws.{pcp-held}
use Rattle.rt_laws.specs.BlockedOnce.{BlockedAtMost, BlockedOnce, BlockerReaches, TakingIsPrompt, is_asking, takes_interrupts, asks_linked, blocks, entered, stays_ready, is_inside, is_linked, is_lower, is_of_pcp, is_prompt, is_blocked_anew, lower_waiting, reaches, sections_seen, waiting_at_first, was_blocked}
use Rattle.rt_laws.proofs.semaphores.Asked.{IsAsked, asked}
use Rattle.rt_laws.proofs.semaphores.AtSem.{at_cluster-asks}
use Rattle.rt_laws.proofs.pcp.BlockedOnce.{IsHeld, Stops, held-facts, count-after, count-granted, count_of, linked-stops, one_reaches_of, pair-reaches, pair-task, pcp-plugin, reaching-pair, stops-passes}
use Rattle.rt_laws.proofs.semaphores.Holding.{one-holds}
use Rattle.rt_laws.proofs.Moves.{IsMove, by_moves, clock_moves, cpu_acts, moved}
use Rattle.rt_laws.proofs.semaphores.Requests.{IsAsk, asks}
use Rattle.rt_laws.proofs.links.LinkedTasks.{linked-eligible}
use Rattle.rt_rules.proofs.LinkLaws.{has-link_at}
use Rattle.rt_laws.proofs.pcp.PcpGrants.{held_once}
use Rattle.rt_laws.proofs.Rules.{MeetsRules}
use Rattle.rt_laws.proofs.semaphores.SemaphoreLaws.{holder_holds_one}
use Rattle.rt_laws.proofs.ValidSets.{one_cpu, rules_of}
use Rattle.rt_laws.proofs.semaphores.WaitsHolding.{asks-holds_pcp}

pcp-is : (x : Protocol) → is_pcp x ≡ true → x ≡ Pcp
pcp-is Pcp h = refl
pcp-is Fmlp h = cc
pcp-is Omlp h = cc
pcp-is Mpcp h = cc
pcp-is Srp h = cc

-- under P-FP only PCP semaphores are given back in turn
fp-not_stacked : (p : PluginKind) (x : Protocol) → p ≡ plugins.PFp → stands_under x p ≡ true → is_pcp x ≡ false → is_stacked x ≡ false
fp-not_stacked p Pcp e a h = cc
fp-not_stacked p Srp e a h = let k : stands_under Srp plugins.PFp ≡ true = subst (λ q. stands_under Srp q ≡ true) e a in cc
fp-not_stacked p Fmlp e a h = refl
fp-not_stacked p Omlp e a h = refl
fp-not_stacked p Mpcp e a h = refl

module _ (g : Group) (valid : IsValid g.setup) where
  rules : MeetsRules g
  rules = rules_of g valid

  one_of : (t : ℕ) → has t (tasks g) ≡ true → g.setup.plugin ≡ plugins.PFp → cpus g (home g t) ≡ 1
  one_of t there p = one_cpu g valid (home g t) (rw p) (rules.has_home t there)

  -- ---- what blocks reaches

  blocker-reaches : {past : Past} → IsReachable g past → (t u : ℕ) → has t (tasks g) ≡ true → stays_ready g t past ≡ true → blocks g t u past ≡ true → reaches g t u past ≡ true
  unfolding blocks is_inside
  blocker-reaches {past} made t u there on h = split (either (is_of_pcp g (awaits g t past) && reaches g t u past) _ parts.1)
    where
      parts : (is_lower g t u ≡ true) × (is_of_pcp g (awaits g t past) && reaches g t u past || is_linked g (home g t) u past && is_inside g u past ≡ true)
      parts = both (is_lower g t u) _ h

      in_place : is_linked g (home g t) u past ≡ true → (s : ℕ) × (has_pair u s (pcp g (home g u) past).held ≡ true) → reaches g t u past ≡ true
      in_place linked q =
          let f : IsHeld g rules past made (home g u) u q.0 = held-facts g rules past made (home g u) u q.0 q.1 in
          (linked-stops g rules past made t u there f.plugin (one_of t there f.plugin) on parts.0 (λ r k. only r (one-holds g u r past k) f (is_pcp (protocol g r)) refl) linked).reached
        where
          only : (r : ℕ) → (has r (sems g) ≡ true) × (is u (holder g r past) ≡ true) → IsHeld g rules past made (home g u) u q.0 → (b : Bool) → is_pcp (protocol g r) ≡ b → is_pcp (protocol g r) ≡ true
          only r k f true e = e
          only r k f false e =
              let same : r ≡ q.0 = holder_holds_one g past valid made u r q.0 k.0 f.known (fp-not_stacked g.setup.plugin (protocol g r) f.plugin (rules.is_allowed r k.0) e) (is-some u (holder g r past) k.1) (is-some u (holder g q.0 past) f.holds_it) in
              rw same f.user.of_pcp

      split : (is_of_pcp g (awaits g t past) && reaches g t u past ≡ true) ⊎ (is_linked g (home g t) u past && is_inside g u past ≡ true) → reaches g t u past ≡ true
      split (inl k) = (both (is_of_pcp g (awaits g t past)) (reaches g t u past) k).1
      split (inr k) = let q = both (is_linked g (home g t) u past) _ k in in_place q.0 (pair-of u (pcp g (home g u) past).held q.1)

  -- ---- a move of the stretch

  -- a lower task that asks owns the newest grant, and reaches t already
  asker-stops : {past : Past} {e : Event} → (made : IsReachable g past) → IsMove g past e → (t v s : ℕ) → has t (tasks g) ≡ true → stays_ready g t past ≡ true
      → asks_linked g t (at_cluster g (home g t) (sem_act e)) past ≡ true → is_lower g t v ≡ true → at_cluster g (home g t) (sem_act e) ≡ Asks v s
      → Stops g rules past made t v
  unfolding asks_linked
  asker-stops {past} {e} made move t v s there on prompt low h =
      let q = at_cluster-asks g (home g t) v s (sem_act e) h in
      let a : IsAsked g v s past = asked g rules made move v s q.0 in
      let p : g.setup.plugin ≡ plugins.PFp = pcp-plugin g.setup.plugin (protocol g s) q.2 (rules.is_allowed s a.known) in
      linked-stops g rules past made t v there p (one_of t there p) on low (λ r k. let w = one-holds g v r past k in asks-holds_pcp g v r s past (subst (λ (x : Protocol). nests g x s v past ≡ false) (pcp-is (protocol g s) q.2) a.unnested) w.0 w.1) (rw (h, low) at prompt)

  -- no more lower tasks wait for a semaphore whose ceiling t is not above after a move
  waiting-step : {past : Past} {e : Event} → (made : IsReachable g past) → IsMove g past e → (t : ℕ) → has t (tasks g) ≡ true → stays_ready g t past ≡ true
      → asks_linked g t (at_cluster g (home g t) (sem_act e)) past ≡ true → lower_waiting g t (e ∷ past) ≤ lower_waiting g t past
  unfolding pcp lower_waiting
  waiting-step {past} {e} made move t there on prompt = count-after (λ p. is_lower g t p.task && not (above_ceiling g t p.sem)) (above g []) (above_ceiling g) (at_cluster g (home g t) (sem_act e)) (pcp g (home g t) past) queued
    where
      queued : (u r : ℕ) → at_cluster g (home g t) (sem_act e) ≡ Asks u r → passes (above_ceiling g) (pcp g (home g t) past).held u ≡ false → is_lower g t u && not (above_ceiling g t r) ≡ false
      queued u r h stops = by_case (is_lower g t u) refl
        where
          by_case : (b : Bool) → is_lower g t u ≡ b → b && not (above_ceiling g t r) ≡ false
          by_case false low = refl
          by_case true low = absurd (clash _ (stops-passes g rules past made t u (asker-stops made move t u r there on prompt low h)) stops)

  -- who reaches did before the move, or was one of them and is granted
  reaches-step : {past : Past} {e : Event} → (made : IsReachable g past) → IsMove g past e → (t v : ℕ) → has t (tasks g) ≡ true → stays_ready g t past ≡ true
      → asks_linked g t (at_cluster g (home g t) (sem_act e)) past ≡ true → is_lower g t v ≡ true → reaches g t v (e ∷ past) ≡ true
      → (reaches g t v past ≡ true) ⊎ (lower_waiting g t (e ∷ past) + 1 ≤ lower_waiting g t past)
  unfolding pcp lower_waiting
  reaches-step {past} {e} made move t v there on prompt low h = split (pcp-held (above g []) (above_ceiling g) v q.0 (at_cluster g (home g t) (sem_act e)) (pcp g (home g t) past) q.1)
    where
      q : (s : ℕ) × (has_pair v s (pcp g (home g t) (e ∷ past)).held ≡ true) × (above_ceiling g t s ≡ false)
      q = reaching-pair g t v (e ∷ past) h

      granted_now : has_pair v q.0 (pcp g (home g t) (e ∷ past)).waiting ≡ false
      granted_now = unless _ (λ w. clash _ q.1 ((held_once g rules (home g t) (moved g made move)).apart v q.0 w))

      split : ((has_pair v q.0 (pcp g (home g t) past).held ≡ true) ⊎ (has_pair v q.0 (pcp g (home g t) past).waiting ≡ true)) ⊎ (at_cluster g (home g t) (sem_act e) ≡ Asks v q.0) → (reaches g t v past ≡ true) ⊎ (count_of (λ p. is_lower g t p.task && not (above_ceiling g t p.sem)) (pcp_after (above g []) (above_ceiling g) (at_cluster g (home g t) (sem_act e)) (pcp g (home g t) past)).waiting + 1 ≤ count_of (λ p. is_lower g t p.task && not (above_ceiling g t p.sem)) (pcp g (home g t) past).waiting)
      split (inl (inl k)) = inl (pair-reaches g t v q.0 past k q.2)
      split (inl (inr k)) = inr (count-granted (λ p. is_lower g t p.task && not (above_ceiling g t p.sem)) (above g []) (above_ceiling g) v q.0 (at_cluster g (home g t) (sem_act e)) (pcp g (home g t) past) k (rw (low, q.2)) granted_now)
      split (inr k) = inl (asker-stops made move t v q.0 there on prompt low k).reached

  -- who reaches is in a critical section, which goes on
  inside : (t v : ℕ) (past : Past) → is_lower g t v ≡ true → reaches g t v past ≡ true → is_inside g v past ≡ true
  unfolding is_inside is_lower
  inside t v past low h =
      let q = reaching-pair g t v past h in
      let at : home g v ≡ home g t = eqb-true (home g v) (home g t) (both (home g v == home g t) _ low).0 in
      pair-task v q.0 (pcp g (home g v) past).held (rw at q.1)

  same-section : (t v : ℕ) (e : Event) (past : Past) → is_lower g t v ≡ true → reaches g t v past ≡ true → entered g v (e ∷ past) ≡ entered g v past
  unfolding entered
  same-section t v e past low h = rw (inside t v past low h)

  -- ---- the stretch

  -- at this moment the section that u entered with entry n blocks t
  record IsNow (t u n : ℕ) (past : Past) : Type 0 where
    low : is_lower g t u ≡ true
    reached : reaches g t u past ≡ true
    begun : entered g u past ≡ n

  blocks-lower : (t u : ℕ) (past : Past) → blocks g t u past ≡ true → is_lower g t u ≡ true
  unfolding blocks
  blocks-lower t u past h = (both (is_lower g t u) _ h).0

  is_now : {past : Past} → IsReachable g past → (t u n : ℕ) → has t (tasks g) ≡ true → stays_ready g t past ≡ true → blocks g t u past && entered g u past == n ≡ true → IsNow t u n past
  is_now {past} made t u n there on h =
      let q = both (blocks g t u past) (entered g u past == n) h in
      record { low = blocks-lower t u past q.0; reached = blocker-reaches made t u there on q.0; begun = eqb-true (entered g u past) n q.1 }

  was-on : (t u n : ℕ) (past : Past) → was_blocked g t u n past ≡ true → stays_ready g t past ≡ true
  unfolding was_blocked
  was-on t u n [] h = (both (stays_ready g t []) _ h).0
  was-on t u n (e ∷ past) h = (both (stays_ready g t (e ∷ past)) _ h).0

  was-first : (t u n : ℕ) → was_blocked g t u n [] ≡ true → blocks g t u [] && entered g u [] == n ≡ true
  unfolding was_blocked
  was-first t u n h = (both (stays_ready g t []) _ h).1

  was-cases : (t u n : ℕ) (e : Event) (past : Past) → was_blocked g t u n (e ∷ past) ≡ true → (blocks g t u (e ∷ past) && entered g u (e ∷ past) == n ≡ true) ⊎ (was_blocked g t u n past ≡ true)
  unfolding was_blocked
  was-cases t u n e past h = either (blocks g t u (e ∷ past) && entered g u (e ∷ past) == n) (was_blocked g t u n past) (both (stays_ready g t (e ∷ past)) _ h).1

  -- what is kept through a stretch
  record IsKept (t : ℕ) (past : Past) : Type 0 where
    none_waits : lower_waiting g t past ≡ 0
    stays : (u v n : ℕ) → was_blocked g t u n past ≡ true → is_lower g t v ≡ true → reaches g t v past ≡ true → (v ≡ u) × (entered g v past ≡ n)
    once : (u v n m : ℕ) → was_blocked g t u n past ≡ true → was_blocked g t v m past ≡ true → (u ≡ v) × (n ≡ m)

  -- two sections that block at one moment are one
  now-now : {past : Past} → IsReachable g past → (t u v n : ℕ) → IsNow t u n past → is_lower g t v ≡ true → reaches g t v past ≡ true → (v ≡ u) × (entered g v past ≡ n)
  now-now {past} made t u v n now low h = let same : v ≡ u = one_reaches_of g rules made t v u low now.low h now.reached in (same, rw same now.begun)

  -- the stretch begins
  kept-begun : {past : Past} → (made : IsReachable g past) → (t : ℕ) → lower_waiting g t past ≡ 0 → ((u n : ℕ) → was_blocked g t u n past ≡ true → IsNow t u n past) → IsKept t past
  kept-begun {past} made t none now = record {
    none_waits = none;
    stays = λ u v n h low k. now-now made t u v n (now u n h) low k;
    once = λ u v n m h k. let a : IsNow t u n past = now u n h in let b : IsNow t v m past = now v m k in let q = now-now made t v u m b a.low a.reached in (q.0, sym a.begun ∙ q.1);
  }

  -- the stretch goes on
  kept-step : {past : Past} {e : Event} → (made : IsReachable g past) → IsMove g past e → (t : ℕ) → has t (tasks g) ≡ true → stays_ready g t past ≡ true → stays_ready g t (e ∷ past) ≡ true
      → asks_linked g t (at_cluster g (home g t) (sem_act e)) past ≡ true → IsKept t past → IsKept t (e ∷ past)
  kept-step {past} {e} made move t there on on_after prompt k = record { none_waits = omega (arith, waiting-step made move t there on prompt, k.none_waits); stays = stays; once = once }
    where
      made_after : IsReachable g (e ∷ past)
      made_after = moved g made move

      was_stays : (u v n : ℕ) → was_blocked g t u n past ≡ true → is_lower g t v ≡ true → reaches g t v (e ∷ past) ≡ true → (v ≡ u) × (entered g v (e ∷ past) ≡ n)
      was_stays u v n h low r =
          let before : reaches g t v past ≡ true = held (reaches-step made move t v there on prompt low r) in
          let q = k.stays u v n h low before in
          (q.0, same-section t v e past low before ∙ q.1)
        where
          held : (reaches g t v past ≡ true) ⊎ (lower_waiting g t (e ∷ past) + 1 ≤ lower_waiting g t past) → reaches g t v past ≡ true
          held (inl a) = a
          held (inr a) = absurd (omega (arith, a, k.none_waits))

      now : (u n : ℕ) → blocks g t u (e ∷ past) && entered g u (e ∷ past) == n ≡ true → IsNow t u n (e ∷ past)
      now u n h = is_now made_after t u n there on_after h

      stays : (u v n : ℕ) → was_blocked g t u n (e ∷ past) ≡ true → is_lower g t v ≡ true → reaches g t v (e ∷ past) ≡ true → (v ≡ u) × (entered g v (e ∷ past) ≡ n)
      stays u v n h low r = split (was-cases t u n e past h)
        where
          split : (blocks g t u (e ∷ past) && entered g u (e ∷ past) == n ≡ true) ⊎ (was_blocked g t u n past ≡ true) → (v ≡ u) × (entered g v (e ∷ past) ≡ n)
          split (inl a) = now-now made_after t u v n (now u n a) low r
          split (inr a) = was_stays u v n a low r

      once : (u v n m : ℕ) → was_blocked g t u n (e ∷ past) ≡ true → was_blocked g t v m (e ∷ past) ≡ true → (u ≡ v) × (n ≡ m)
      once u v n m h l = split (was-cases t u n e past h) (was-cases t v m e past l)
        where
          split : (blocks g t u (e ∷ past) && entered g u (e ∷ past) == n ≡ true) ⊎ (was_blocked g t u n past ≡ true) → (blocks g t v (e ∷ past) && entered g v (e ∷ past) == m ≡ true) ⊎ (was_blocked g t v m past ≡ true) → (u ≡ v) × (n ≡ m)
          split (inl a) b = let x : IsNow t u n (e ∷ past) = now u n a in let q = stays v u m l x.low x.reached in (q.0, sym x.begun ∙ q.1)
          split (inr a) (inl b) = let x : IsNow t v m (e ∷ past) = now v m b in let q = stays u v n h x.low x.reached in (sym q.0, sym q.1 ∙ x.begun)
          split (inr a) (inr b) = k.once u v n m a b

  Goes : ℕ → Past → Type 0
  Goes t past = stays_ready g t past ≡ true → is_prompt g t past ≡ true → waiting_at_first g t past ≡ 0 → IsKept t past

  kept-opening : (t : ℕ) → has t (tasks g) ≡ true → Goes t []
  unfolding Goes lower_waiting pcp
  kept-opening t there on prompt clear = kept-begun opened t refl (λ u n h. is_now opened t u n there on (was-first t u n h))

  kept-move : {past : Past} {e : Event} → (made : IsReachable g past) → IsMove g past e → (t : ℕ) → has t (tasks g) ≡ true → Goes t past → Goes t (e ∷ past)
  unfolding Goes is_prompt waiting_at_first
  kept-move {past} {e} made move t there before on prompt clear = by_case (stays_ready g t past) refl prompt clear
    where
      by_case : (b : Bool) → stays_ready g t past ≡ b → (if b then asks_linked g t (at_cluster g (home g t) (sem_act e)) past && is_prompt g t past else true) ≡ true → (if b then waiting_at_first g t past else lower_waiting g t (e ∷ past)) ≡ 0 → IsKept t (e ∷ past)
      by_case true o p c = let q = both (asks_linked g t (at_cluster g (home g t) (sem_act e)) past) (is_prompt g t past) p in kept-step made move t there o on q.0 (before o q.1 c)
      by_case false o p c = kept-begun (moved g made move) t c (λ u n h. first u n (was-cases t u n e past h))
        where
          first : (u n : ℕ) → (blocks g t u (e ∷ past) && entered g u (e ∷ past) == n ≡ true) ⊎ (was_blocked g t u n past ≡ true) → IsNow t u n (e ∷ past)
          first u n (inl a) = is_now (moved g made move) t u n there on a
          first u n (inr a) = absurd (clash _ (was-on t u n past a) o)

  kept : {past : Past} → IsReachable g past → (t : ℕ) → has t (tasks g) ≡ true → Goes t past
  kept made t there = by_moves g (Goes t) (kept-opening t there) (λ past e m move before. kept-move m move t there before) made

  first-on : {past : Past} → IsReachable g past → (t u v n m : ℕ) → has t (tasks g) ≡ true → is_prompt g t past ≡ true → waiting_at_first g t past ≡ 0 → was_blocked g t u n past ≡ true → was_blocked g t v m past ≡ true → (u ≡ v) × (n ≡ m)
  unfolding Goes
  first-on {past} made t u v n m there prompt clear h k = (kept made t there (was-on t u n past h) prompt clear).once u v n m h k

  -- ---- how many sections

  -- a lower task is in a section that reaches t and has not blocked it
  is_fresh : ℕ → Past → Bool
  is_fresh t past = list_any (λ v. is_lower g t v && (reaches g t v past && not (was_blocked g t v (entered g v past) past))) (tasks g)

  any-one : (test : ℕ → Bool) (xs : List ℕ) → list_any test xs ≡ true → (x : ℕ) × (test x ≡ true)
  any-one test [] h = cc
  any-one test (x ∷ xs) h = split (either (test x) _ h) (any-one test xs)
    where
      split : (test x ≡ true) ⊎ (list_any test xs ≡ true) → (list_any test xs ≡ true → (y : ℕ) × (test y ≡ true)) → (y : ℕ) × (test y ≡ true)
      split (inl k) r = (x, k)
      split (inr k) r = r k

  one-any : (test : ℕ → Bool) (xs : List ℕ) (x : ℕ) → has x xs ≡ true → test x ≡ true → list_any test xs ≡ true
  one-any test xs x h k = by_case (list_any test xs) refl
    where
      by_case : (b : Bool) → list_any test xs ≡ b → b ≡ true
      by_case true e = refl
      by_case false e = absurd (clash _ k (any-none test xs x e h))

  as_number : Bool → ℕ
  as_number b = if b then 1 else 0

  -- a lower task that reaches t in a section that had not blocked it before the move
  record IsFresh (t : ℕ) (e : Event) (past : Past) : Type 0 where
    task : ℕ
    low : is_lower g t task ≡ true
    reached : reaches g t task (e ∷ past) ≡ true
    unseen : was_blocked g t task (entered g task (e ∷ past)) past ≡ false

  fresh-now : (t v : ℕ) {past : Past} → (made : IsReachable g past) → is_lower g t v ≡ true → reaches g t v past ≡ true → was_blocked g t v (entered g v past) past ≡ false → is_fresh t past ≡ true
  unfolding is_fresh
  fresh-now t v {past} made low h unseen =
      let q = reaching-pair g t v past h in
      one-any (λ x. is_lower g t x && (reaches g t x past && not (was_blocked g t x (entered g x past) past))) (tasks g) v (held-facts g rules past made (home g t) v q.0 q.1).member (rw (low, h, unseen))

  anew-fresh : (t : ℕ) (e : Event) {past : Past} → (made : IsReachable g (e ∷ past)) → has t (tasks g) ≡ true → stays_ready g t (e ∷ past) ≡ true → is_blocked_anew g t (e ∷ past) ≡ true → (f : IsFresh t e past) × (blocks g t f.task (e ∷ past) ≡ true)
  unfolding is_blocked_anew
  anew-fresh t e {past} made there on h =
      let q = any-one (λ u. blocks g t u (e ∷ past) && not (was_blocked g t u (entered g u (e ∷ past)) past)) (tasks g) h in
      let w = both (blocks g t q.0 (e ∷ past)) _ q.1 in
      (record { task = q.0; low = blocks-lower t q.0 (e ∷ past) w.0; reached = blocker-reaches made t q.0 there on w.0; unseen = not_true _ w.1 }, w.0)

  was-after : (t u n : ℕ) (e : Event) (past : Past) → stays_ready g t (e ∷ past) ≡ true → was_blocked g t u n (e ∷ past) ≡ false → (blocks g t u (e ∷ past) && entered g u (e ∷ past) == n ≡ false) × (was_blocked g t u n past ≡ false)
  unfolding was_blocked
  was-after t u n e past on h = neither (blocks g t u (e ∷ past) && entered g u (e ∷ past) == n) (was_blocked g t u n past) (rw on at h)

  still-fresh : (t : ℕ) (e : Event) (past : Past) → stays_ready g t (e ∷ past) ≡ true → is_fresh t (e ∷ past) ≡ true → (f : IsFresh t e past) × (blocks g t f.task (e ∷ past) ≡ false)
  unfolding is_fresh
  still-fresh t e past on h =
      let q = any-one (λ v. is_lower g t v && (reaches g t v (e ∷ past) && not (was_blocked g t v (entered g v (e ∷ past)) (e ∷ past)))) (tasks g) h in
      let a = both (is_lower g t q.0) _ q.1 in
      let b = both (reaches g t q.0 (e ∷ past)) _ a.1 in
      let w = was-after t q.0 (entered g q.0 (e ∷ past)) e past on (not_true _ b.1) in
      (record { task = q.0; low = a.0; reached = b.0; unseen = w.1 }, unless _ (λ k. clash _ (rw (k, equal_self (entered g q.0 (e ∷ past)))) w.0))

  -- what the sections seen, the tasks that wait and a fresh section come to
  IsFew : ℕ → Past → Type 0
  IsFew t past = sections_seen g t past + (lower_waiting g t past + as_number (is_fresh t past)) ≤ 1 + waiting_at_first g t past

  few-step : {past : Past} {e : Event} → (made : IsReachable g past) → IsMove g past e → (t : ℕ) → has t (tasks g) ≡ true → stays_ready g t past ≡ true → stays_ready g t (e ∷ past) ≡ true
      → asks_linked g t (at_cluster g (home g t) (sem_act e)) past ≡ true
      → sections_seen g t past + (lower_waiting g t past + as_number (is_fresh t past)) ≤ 1 + waiting_at_first g t past
      → (as_number (is_blocked_anew g t (e ∷ past)) + sections_seen g t past) + (lower_waiting g t (e ∷ past) + as_number (is_fresh t (e ∷ past))) ≤ 1 + waiting_at_first g t past
  unfolding as_number
  few-step {past} {e} made move t there on on_after prompt before = by_cases (is_blocked_anew g t (e ∷ past)) refl (is_fresh t (e ∷ past)) refl
    where
      made_after : IsReachable g (e ∷ past)
      made_after = moved g made move

      fewer : lower_waiting g t (e ∷ past) ≤ lower_waiting g t past
      fewer = waiting-step made move t there on prompt

      -- one fresh section now
      one : IsFresh t e past → sections_seen g t past + lower_waiting g t (e ∷ past) + 1 ≤ 1 + waiting_at_first g t past
      one f = split (reaches-step made move t f.task there on prompt f.low f.reached)
        where
          split : (reaches g t f.task past ≡ true) ⊎ (lower_waiting g t (e ∷ past) + 1 ≤ lower_waiting g t past) → sections_seen g t past + lower_waiting g t (e ∷ past) + 1 ≤ 1 + waiting_at_first g t past
          split (inl k) =
              let same : entered g f.task (e ∷ past) ≡ entered g f.task past = same-section t f.task e past f.low k in
              let was_fresh : is_fresh t past ≡ true = fresh-now t f.task made f.low k (rw same at f.unseen) in
              let total : sections_seen g t past + (lower_waiting g t past + 1) ≤ 1 + waiting_at_first g t past = rw was_fresh at before in
              omega (arith, total, fewer)
          split (inr k) = omega (arith, k, before)

      by_cases : (a : Bool) → is_blocked_anew g t (e ∷ past) ≡ a → (b : Bool) → is_fresh t (e ∷ past) ≡ b → (if a then 1 else 0) + sections_seen g t past + (lower_waiting g t (e ∷ past) + (if b then 1 else 0)) ≤ 1 + waiting_at_first g t past
      by_cases true k true l =
          let x = anew-fresh t e made_after there on_after k in
          let y = still-fresh t e past on_after l in
          let same : x.0.task ≡ y.0.task = one_reaches_of g rules made_after t x.0.task y.0.task x.0.low y.0.low x.0.reached y.0.reached in
          absurd (clash _ (rw same at x.1) y.1)
      by_cases true k false l = omega (arith, one (anew-fresh t e made_after there on_after k).0)
      by_cases false k true l = omega (arith, one (still-fresh t e past on_after l).0)
      by_cases false k false l = omega (arith, before, fewer)

  -- at one moment one section is fresh or blocks anew
  not-both : (t : ℕ) (e : Event) {past : Past} → (made : IsReachable g (e ∷ past)) → has t (tasks g) ≡ true → stays_ready g t (e ∷ past) ≡ true → as_number (is_blocked_anew g t (e ∷ past)) + as_number (is_fresh t (e ∷ past)) ≤ 1
  unfolding as_number
  not-both t e {past} made there on = by_cases (is_blocked_anew g t (e ∷ past)) refl (is_fresh t (e ∷ past)) refl
    where
      by_cases : (a : Bool) → is_blocked_anew g t (e ∷ past) ≡ a → (b : Bool) → is_fresh t (e ∷ past) ≡ b → (if a then 1 else 0) + (if b then 1 else 0) ≤ 1
      by_cases true k true l =
          let x = anew-fresh t e made there on k in
          let y = still-fresh t e past on l in
          let same : x.0.task ≡ y.0.task = one_reaches_of g rules made t x.0.task y.0.task x.0.low y.0.low x.0.reached y.0.reached in
          absurd (clash _ (rw same at x.1) y.1)
      by_cases true k false l = omega arith
      by_cases false k true l = omega arith
      by_cases false k false l = omega arith

  seen-none : (t : ℕ) (past : Past) → stays_ready g t past ≡ false → sections_seen g t past ≡ 0
  unfolding sections_seen
  seen-none t [] h = rw h
  seen-none t (e ∷ past) h = rw h

  nothing-held : (t u : ℕ) → reaches g t u [] ≡ true → ⊥
  unfolding reaches pcp
  nothing-held t u h = cc

  nothing-fresh : (t : ℕ) → is_fresh t [] ≡ false
  unfolding is_fresh
  nothing-fresh t = unless _ (λ h. let q = any-one (λ v. is_lower g t v && (reaches g t v [] && not (was_blocked g t v (entered g v []) []))) (tasks g) h in nothing-held t q.0 (both (reaches g t q.0 []) _ (both (is_lower g t q.0) _ q.1).1).0)

  nothing-blocks : (t : ℕ) → has t (tasks g) ≡ true → stays_ready g t [] ≡ true → is_blocked_anew g t [] ≡ false
  unfolding is_blocked_anew
  nothing-blocks t there on = unless _ (λ h. let q = any-one (λ u. blocks g t u []) (tasks g) h in nothing-held t q.0 (blocker-reaches opened t q.0 there on q.1))

  Few : ℕ → Past → Type 0
  Few t past = stays_ready g t past ≡ true → is_prompt g t past ≡ true → IsFew t past

  few-opening : (t : ℕ) → has t (tasks g) ≡ true → Few t []
  unfolding Few IsFew sections_seen lower_waiting waiting_at_first as_number pcp
  few-opening t there on prompt = rw (on, nothing-blocks t there on, nothing-fresh t) (omega arith)

  few-move : {past : Past} {e : Event} → (made : IsReachable g past) → IsMove g past e → (t : ℕ) → has t (tasks g) ≡ true → Few t past → Few t (e ∷ past)
  unfolding Few IsFew is_prompt waiting_at_first sections_seen as_number
  few-move {past} {e} made move t there before on prompt = rw on (by_case (stays_ready g t past) refl prompt)
    where
      by_case : (b : Bool) → stays_ready g t past ≡ b → (if b then asks_linked g t (at_cluster g (home g t) (sem_act e)) past && is_prompt g t past else true) ≡ true
          → ((if is_blocked_anew g t (e ∷ past) then 1 else 0) + sections_seen g t past) + (lower_waiting g t (e ∷ past) + as_number (is_fresh t (e ∷ past))) ≤ 1 + (if b then waiting_at_first g t past else lower_waiting g t (e ∷ past))
      by_case true o p = let q = both (asks_linked g t (at_cluster g (home g t) (sem_act e)) past) (is_prompt g t past) p in few-step made move t there o on q.0 (before o q.1)
      by_case false o p = let one : as_number (is_blocked_anew g t (e ∷ past)) + as_number (is_fresh t (e ∷ past)) ≤ 1 = not-both t e (moved g made move) there on in let none : sections_seen g t past ≡ 0 = seen-none t past o in begun one none
        where
          begun : as_number (is_blocked_anew g t (e ∷ past)) + as_number (is_fresh t (e ∷ past)) ≤ 1 → sections_seen g t past ≡ 0 → (as_number (is_blocked_anew g t (e ∷ past)) + sections_seen g t past) + (lower_waiting g t (e ∷ past) + as_number (is_fresh t (e ∷ past))) ≤ 1 + lower_waiting g t (e ∷ past)
          begun one none = omega (arith, one, none)

  few : {past : Past} → IsReachable g past → (t : ℕ) → has t (tasks g) ≡ true → Few t past
  few made t there = by_moves g (Few t) (few-opening t there) (λ past e m move before. few-move m move t there before) made

  at-most : {past : Past} → IsReachable g past → (t : ℕ) → has t (tasks g) ≡ true → is_prompt g t past ≡ true → sections_seen g t past ≤ 1 + waiting_at_first g t past
  unfolding Few IsFew
  at-most {past} made t there prompt = by_case (stays_ready g t past) refl
    where
      by_case : (b : Bool) → stays_ready g t past ≡ b → sections_seen g t past ≤ 1 + waiting_at_first g t past
      by_case true on = let k : sections_seen g t past + (lower_waiting g t past + as_number (is_fresh t past)) ≤ 1 + waiting_at_first g t past = few made t there on prompt in omega (arith, k)
      by_case false on = omega (arith, seen-none t past on)

pub blocked_at_most : BlockedAtMost
blocked_at_most g past valid made t there prompt = at-most g valid made t there prompt

-- ---- interrupts that are taken before a Lock

-- what runs where no interrupt is pending is linked
pub runs-linked : (g : Group) {past : Past} → IsReachable g past → (q u : ℕ) → pending g q past ≡ false → runs q past ≡ Some u → is_linked g (home g u) u past ≡ true
unfolding pending is_linked linked
runs-linked g {past} made q u none r = rw (← at) (has-link_at u (links g (cluster_with g q) past) (q - first_cpu g (cluster_with g q)) link)
  where
    same_as : (o : Option ℕ) → not (same o (Some u)) ≡ false → is u o ≡ true
    same_as None h = cc
    same_as (Some x) h = let e : x ≡ u = eqb-true x u (not_false (x == u) h) in rw (e, equal_self u)

    link : is u (linked g q past) ≡ true
    link = same_as (linked g q past) (rw r at none)

    at : cluster_with g q ≡ home g u
    at = (linked-eligible g made q u link).at_home

taken-asks : (g : Group) {past : Past} {e : Event} → IsReachable g past → IsMove g past e → takes_interrupts g (e ∷ past) ≡ true → (t u s : ℕ) → at_cluster g (home g t) (sem_act e) ≡ Asks u s → is_linked g (home g t) u past ≡ true
unfolding takes_interrupts past_act
taken-asks g made (clock_moves tick) h t u s k = let q : Neither ≡ Asks u s = (at_cluster-asks g (home g t) u s Neither k).0 in cc
taken-asks g {past} made (cpu_acts q a) h t u s k =
    let w = at_cluster-asks g (home g t) u s (sem_act (Acted (past_act g q a past))) k in
    let ask : IsAsk g q a past u s = asks g q a past u s w.0 in
    let free : not (pending g q past) ≡ true = (both (not (pending g q past)) (takes_interrupts g past) (rw w.0 at h)).0 in
    rw (← w.1) (runs-linked g made q u (not_true _ free) ask.runs_it)

pub taken-before : (g : Group) (e : Event) (past : Past) → takes_interrupts g (e ∷ past) ≡ true → takes_interrupts g past ≡ true
unfolding takes_interrupts
taken-before g (Clock tick) past h = h
taken-before g (Acted d) past h = (both (not (is_asking (sem_act (Acted d))) || not (pending g d.cpu past)) _ h).1

prompt-step : (g : Group) {past : Past} {e : Event} → IsReachable g past → IsMove g past e → (t : ℕ) → (takes_interrupts g past ≡ true → is_prompt g t past ≡ true) → takes_interrupts g (e ∷ past) ≡ true → is_prompt g t (e ∷ past) ≡ true
unfolding is_prompt asks_linked
prompt-step g {past} {e} made move t before h = by_case (stays_ready g t past) (at_cluster g (home g t) (sem_act e)) refl
  where
    rest : is_prompt g t past ≡ true
    rest = before (taken-before g e past h)

    by_case : (b : Bool) (x : SemAct) → at_cluster g (home g t) (sem_act e) ≡ x → (if b then asks_linked g t x past && is_prompt g t past else true) ≡ true
    by_case false x k = refl
    by_case true Neither k = rest
    by_case true (Frees u s) k = rest
    by_case true (Asks u s) k = rw rest (lower (is_lower g t u))
      where
        lower : (b : Bool) → (if b then is_linked g (home g t) u past else true) && true ≡ true
        lower true = rw (taken-asks g made move h t u s k)
        lower false = refl

opening-prompt : (g : Group) (t : ℕ) → is_prompt g t [] ≡ true
unfolding is_prompt
opening-prompt g t = refl

pub taking_is_prompt : TakingIsPrompt
taking_is_prompt g past valid made t = by_moves g (λ past. takes_interrupts g past ≡ true → is_prompt g t past ≡ true) (λ h. opening-prompt g t) (λ past e m move before. prompt-step g m move t before) made

pub blocker_reaches : BlockerReaches
blocker_reaches g past valid made t u there on h = blocker-reaches g valid made t u there on h

pub blocked_once : BlockedOnce
blocked_once g past valid made t u v n m there prompt clear h k = first-on g valid made t u v n m there prompt clear h k
