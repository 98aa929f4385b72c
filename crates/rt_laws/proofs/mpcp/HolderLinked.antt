-- Under GSN-EDF and C-EDF the holder of a semaphore that a blocked task waits for is linked.
use Rattle.std.proofs.Common.{Bool, List, [], ap, arith, eqb-true, false, inl, inr, length, map, not, refl, subst, suc, sym, take, true, zero, ℕ, ◌&&◌, ◌||◌, ◌∙◌, ◌∷◌, ◌≡◌, ◌⊎◌}
use Rattle.std.specs.Prelude.{None, Option, Some, filter, is_none, ◌==◌}
use Rattle.rt_task.specs.RuleWords.{is_of_one_cluster, stands_under}
use Rattle.rt_task.specs.declared.PluginKind.TheVariants as plugins
use Rattle.rt_task.specs.declared.PluginKind.{PluginKind}
use Rattle.rt_task.specs.declared.Protocol.TheVariants.{Fmlp, Mpcp, Omlp, Pcp, Srp}
use Rattle.rt_task.specs.declared.Protocol.{Protocol}
use Rattle.rt_rules.specs.KeyOrder.{higher}
use Rattle.rt_rules.specs.declared.Key.{Key}
use Rattle.rt_rules.specs.Keys.{Ranked, highest, sorted}
use Rattle.rt_rules.specs.Numbers.{first, has, is}
use Rattle.rt_rules.specs.Walks.{followers, walk}
use Rattle.rt_model.specs.BaseKeys.{above, base_key}
use Rattle.rt_model.specs.Blocking.{is_blocked}
use Rattle.rt_model.specs.Boosts.{boost, boost_by, boost_of, boosts_fmlp}
use Rattle.rt_model.specs.Ceilings.{is_pcp}
use Rattle.rt_model.specs.EffectiveKeys.{effective_key, next_at, next_by, waits_for}
use Rattle.rt_model.specs.Group.{Group, cpus, home, protocol, sems, tasks, tasks_of}
use Rattle.rt_model.specs.Holders.{awaits, holder, holds, sem_state}
use Rattle.rt_model.specs.Reachable.{IsReachable}
use Rattle.rt_model.specs.Past.{Past}
use Rattle.rt_model.specs.Releases.{exists, ready}
use Rattle.rt_model.specs.Sleep.{sleeps}
use Rattle.rt_model.specs.Tops.{eligible, is_admitted, is_served, ranking, top}
use Rattle.rt_rules.proofs.BoolLaws.{both, clash, either, unless}
use Rattle.rt_rules.proofs.DistinctLaws.{distinct-map}
use Rattle.rt_rules.proofs.KeyLaws.{higher-mixed, higher-total, highest-of, highest-owner}
use Rattle.rt_rules.proofs.MemberLaws.{has-filter, has-first, is_one, length-mapped, map-back, some-is, turned, none-is}
use Rattle.rt_rules.proofs.RankedLaws.{has-sorted, tasks_ranked}
use Rattle.rt_rules.proofs.RankingLaws.{cut-off, full-take, keys-map, keys-sorted, ranked-sorted}
use Rattle.rt_model.proofs.PastLaws.{links-top, processor-home}
use Rattle.rt_model.proofs.TopLaws.{distinct-top, tasks-ranked}
use Rattle.rt_laws.specs.HolderIsLinked.{HasLinkedHolder, HolderIsLinked, is_global}
use Rattle.rt_laws.proofs.jobs.BaseKeyLaws.{minor-is}
use Rattle.rt_laws.proofs.jobs.Engaged.{holder-engaged, waiting-engaged}
use Rattle.rt_laws.proofs.jobs.EngagedJobs.{IsActive, all_active}
use Rattle.rt_laws.proofs.GroupLaws.{home-tasks_of, tasks_of-home, user-home, user-task}
use Rattle.rt_laws.proofs.semaphores.HasHolder.{has_holder}
use Rattle.rt_laws.proofs.semaphores.Holding.{one-holds}
use Rattle.rt_laws.proofs.links.LinkedTasks.{top-eligible}
use Rattle.rt_laws.proofs.omlp.OmlpCount.{not_blocked}
use Rattle.rt_laws.proofs.Rules.{MeetsRules}
use Rattle.rt_laws.proofs.ValidSets.{rules_of}
use Rattle.rt_laws.proofs.semaphores.Waiting.{awaits-waits, none-waits}
use Rattle.rt_laws.proofs.semaphores.WaitsHolding.{waits_under_pcp}

-- ---- under a global plugin

global-omlp : (p : PluginKind) → is_global p ≡ true → stands_under Omlp p ≡ true
global-omlp plugins.GsnEdf h = refl
global-omlp plugins.CEdf h = refl
global-omlp p h = cc

global-protocol : (p : PluginKind) (x : Protocol) → is_global p ≡ true → stands_under x p ≡ true → (is_pcp x ≡ false) × (is_of_one_cluster x p ≡ true)
global-protocol plugins.GsnEdf Fmlp h k = (refl, refl)
global-protocol plugins.GsnEdf Omlp h k = (refl, refl)
global-protocol plugins.CEdf Fmlp h k = (refl, refl)
global-protocol plugins.CEdf Omlp h k = (refl, refl)
global-protocol p x h k = cc

global-served : (g : Group) (t : ℕ) (past : Past) (p : PluginKind) → is_global p ≡ true → is_served g p t past ≡ true
unfolding is_served
global-served g t past plugins.GsnEdf h = refl
global-served g t past plugins.CEdf h = refl
global-served g t past p h = cc

global-admitted : (g : Group) (t : ℕ) (past : Past) (p : PluginKind) → is_global p ≡ true → is_admitted g p t past ≡ true
unfolding is_admitted
global-admitted g t past plugins.GsnEdf h = refl
global-admitted g t past plugins.CEdf h = refl
global-admitted g t past p h = cc

global-boosts : (g : Group) (p : PluginKind) → is_global p ≡ true → boosts_fmlp p ≡ false
global-boosts g plugins.GsnEdf h = refl
global-boosts g plugins.CEdf h = refl
global-boosts g p h = cc

no_mpcp : (p : PluginKind) → is_global p ≡ true → stands_under Mpcp p ≡ false
no_mpcp plugins.GsnEdf h = refl
no_mpcp plugins.CEdf h = refl
no_mpcp p h = cc

global-unboosted : (g : Group) (x : Protocol) (s t : ℕ) (past : Past) → is_global g.setup.plugin ≡ true → stands_under x g.setup.plugin ≡ true → boost_by g x s t past ≡ None
unfolding boost_by
global-unboosted g Fmlp s t past h k = rw (global-boosts g g.setup.plugin h)
global-unboosted g Omlp s t past h k = refl
global-unboosted g Pcp s t past h k = refl
global-unboosted g Srp s t past h k = refl
global-unboosted g Mpcp s t past h k = absurd (clash _ k (no_mpcp g.setup.plugin h))

module _ (g : Group) (rules : MeetsRules g) (past : Past) (made : IsReachable g past) (global : is_global g.setup.plugin ≡ true) where
  sem-facts : (s : ℕ) → has s (sems g) ≡ true → (is_pcp (protocol g s) ≡ false) × (is_of_one_cluster (protocol g s) g.setup.plugin ≡ true)
  sem-facts s h = global-protocol g.setup.plugin (protocol g s) global (rules.is_allowed s h)

  -- whom a task waits for: the holder of its semaphore, which waits for nobody
  record IsFollower (t u : ℕ) : Type 0 where
    sem : ℕ
    known : has sem (sems g) ≡ true
    waits : has t (sem_state g sem past).waiting ≡ true
    held : is u (holder g sem past) ≡ true

  next-is : (t s : ℕ) → awaits g t past ≡ Some s → is_pcp (protocol g s) ≡ false → waits_for g t past ≡ holder g s past
  unfolding waits_for next_at next_by
  next-is t s e n = rw e (by_protocol (protocol g s) n)
    where
      by_protocol : (p : Protocol) → is_pcp p ≡ false → next_by g p s t past ≡ holder g s past
      by_protocol Fmlp k = refl
      by_protocol Omlp k = refl
      by_protocol Mpcp k = refl
      by_protocol Pcp k = cc
      by_protocol Srp k = refl

  next-none : (t : ℕ) → awaits g t past ≡ None → waits_for g t past ≡ None
  unfolding waits_for next_at
  next-none t e = rw e

  follows : (t u : ℕ) → is u (waits_for g t past) ≡ true → IsFollower t u
  follows t u h = by_case (awaits g t past) refl
    where
      by_case : (o : Option ℕ) → awaits g t past ≡ o → IsFollower t u
      by_case None e = let m : is u None ≡ true = rw (next-none t e) at h in cc
      by_case (Some s) e =
          let w = awaits-waits g t s past e in
          record { sem = s; known = w.0; waits = w.1; held = rw (next-is t s e (sem-facts s w.0).0) at h }

  -- one that is followed does not wait
  followed-free : (t u : ℕ) → IsFollower t u → awaits g u past ≡ None
  followed-free t u f = none-waits g u past (λ r hr. unless _ (λ w. clash _ (waits_under_pcp g rules made u f.sem r f.known hr f.held w).0 (sem-facts f.sem f.known).0))

  -- a walk from a waiting task is one step long
  walk-one : (n t u : ℕ) → has u (walk (λ v. waits_for g v past) n (waits_for g t past)) ≡ true → is u (waits_for g t past) ≡ true
  walk-one n t u h = by_case n (waits_for g t past) refl h
    where
      by_case : (k : ℕ) (o : Option ℕ) → waits_for g t past ≡ o → has u (walk (λ v. waits_for g v past) k o) ≡ true → is u o ≡ true
      by_case zero o e m = cc
      by_case (suc k) None e m = cc
      by_case (suc k) (Some v) e m = last k (next-none v (followed-free t v (follows t v (some-is v (waits_for g t past) e)))) m
        where
          last : (j : ℕ) → waits_for g v past ≡ None → u == v || has u (walk (λ x. waits_for g x past) j (waits_for g v past)) ≡ true → u == v ≡ true
          last zero z x = split (either (u == v) _ x)
            where
              split : (u == v ≡ true) ⊎ (false ≡ true) → u == v ≡ true
              split (inl y) = y
              split (inr y) = cc
          last (suc j) z x = split (either (u == v) _ (rw z at x))
            where
              split : (u == v ≡ true) ⊎ (false ≡ true) → u == v ≡ true
              split (inl y) = y
              split (inr y) = cc

  follower-is : (t u : ℕ) → has t (followers (λ v. waits_for g v past) (tasks g) u) ≡ true → (has t (tasks g) ≡ true) × (is u (waits_for g t past) ≡ true)
  follower-is t u h =
      let q = both (has t (tasks g)) (has u (walk (λ v. waits_for g v past) (length (tasks g)) (waits_for g t past))) (rw has-filter at h) in
      (q.0, walk-one (length (tasks g)) t u q.1)

  is-follower : (t u : ℕ) → has t (tasks g) ≡ true → is u (waits_for g t past) ≡ true → has t (followers (λ v. waits_for g v past) (tasks g) u) ≡ true
  is-follower t u h k = rw (has-filter (λ w. has u (walk (λ v. waits_for g v past) (length (tasks g)) (waits_for g w past))) t (tasks g), h) (reached (tasks g) h (waits_for g t past) k)
    where
      reached : (ts : List ℕ) → has t ts ≡ true → (o : Option ℕ) → is u o ≡ true → has u (walk (λ v. waits_for g v past) (length ts) o) ≡ true
      reached [] m o n = cc
      reached (x ∷ xs) m None n = cc
      reached (x ∷ xs) m (Some v) n = rw n

  -- nobody is boosted: a key is the highest base key of the task and its followers
  key-is : (t : ℕ) → effective_key g t past ≡ highest (base_key g t past) (map (λ v. base_key g v past) (followers (λ v. waits_for g v past) (tasks g) t))
  unfolding effective_key boost boost_of
  key-is t = rw (unboosted (first (holds g t past)) refl)
    where
      unboosted : (o : Option ℕ) → first (holds g t past) ≡ o → boost g t past ≡ None
      unboosted None e = rw e
      unboosted (Some s) e = let known = (one-holds g t s past (has-first s (holds g t past) (some-is s (first (holds g t past)) e))).0 in rw e (global-unboosted g (protocol g s) s t past global (rules.is_allowed s known))

  -- ---- the tasks of the top and those whose base keys they have

  record IsOwner (c x y : ℕ) : Type 0 where
    key : effective_key g x past ≡ base_key g y past
    there : has y (tasks_of g c) ≡ true
    exists_now : exists g y past ≡ true
    how : (y ≡ x) ⊎ (is x (waits_for g y past) ≡ true)

  eligible-facts : (x : ℕ) → eligible g x past ≡ true → (exists g x past ≡ true) × (awaits g x past ≡ None)
  unfolding eligible ready
  eligible-facts x h =
      let a = both (exists g x past && not (sleeps x past)) (is_none (awaits g x past) && (is_served g g.setup.plugin x past && is_admitted g g.setup.plugin x past)) h in
      ((both (exists g x past) (not (sleeps x past)) a.0).0, none-is (awaits g x past) (both (is_none (awaits g x past)) (is_served g g.setup.plugin x past && is_admitted g g.setup.plugin x past) a.1).0)

  is-eligible : (x : ℕ) → exists g x past ≡ true → sleeps x past ≡ false → awaits g x past ≡ None → eligible g x past ≡ true
  unfolding eligible ready
  is-eligible x a b w = rw (a, b, w, global-served g x past g.setup.plugin global, global-admitted g x past g.setup.plugin global)

  -- a follower is of the cluster of the one that it follows
  follower-home : (y x : ℕ) → IsFollower y x → home g y ≡ home g x
  follower-home y x f =
      let a : IsActive g y f.sem past = all_active g rules made y f.sem f.known (waiting-engaged g y f.sem past f.waits) in
      let b : IsActive g x f.sem past = all_active g rules made x f.sem f.known (holder-engaged g x f.sem past f.held) in
      user-home g rules f.sem y (sem-facts f.sem f.known).1 a.user ∙ sym (user-home g rules f.sem x (sem-facts f.sem f.known).1 b.user)

  owner : (c x : ℕ) → has x (top g c past) ≡ true → (y : ℕ) × IsOwner c x y
  owner c x h = (q.0, made_owner q.1)
    where
      facts : (has x (tasks_of g c) ≡ true) × (eligible g x past ≡ true)
      facts = top-eligible g c x past h

      q : (y : ℕ) × ((y ≡ x) ⊎ (has y (followers (λ v. waits_for g v past) (tasks g) x) ≡ true)) × (highest (base_key g x past) (map (λ v. base_key g v past) (followers (λ v. waits_for g v past) (tasks g) x)) ≡ base_key g y past)
      q = highest-owner (λ v. base_key g v past) x (followers (λ v. waits_for g v past) (tasks g) x)

      made_owner : (q.0 ≡ x) ⊎ (has q.0 (followers (λ v. waits_for g v past) (tasks g) x) ≡ true) → IsOwner c x q.0
      made_owner (inl e) = record { key = key-is x ∙ q.2; there = rw e facts.0; exists_now = rw e (eligible-facts x facts.1).0; how = inl e }
      made_owner (inr k) =
          let w = follower-is q.0 x k in
          let f : IsFollower q.0 x = follows q.0 x w.1 in
          let a : IsActive g q.0 f.sem past = all_active g rules made q.0 f.sem f.known (waiting-engaged g q.0 f.sem past f.waits) in
          let c_is : home g q.0 ≡ c = follower-home q.0 x f ∙ (tasks_of-home g c x facts.0).1 in
          record { key = key-is x ∙ q.2; there = subst (λ n. has q.0 (tasks_of g n) ≡ true) c_is (home-tasks_of g q.0 w.0); exists_now = a.exists_now; how = inr w.1 }

  holder-linked : (t s u : ℕ) → is_blocked g t past ≡ true → awaits g t past ≡ Some s → holder g s past ≡ Some u → has u (top g (home g u) past) ≡ true
  unfolding above top ranking
  holder-linked t s u blocked w h = by_case (has u (top g (home g u) past)) refl
    where
      c : ℕ
      c = home g u

      waits : (has s (sems g) ≡ true) × (has t (sem_state g s past).waiting ≡ true)
      waits = awaits-waits g t s past w

      held : is u (holder g s past) ≡ true
      held = some-is u (holder g s past) h

      next_t : is u (waits_for g t past) ≡ true
      next_t = rw (next-is t s w (sem-facts s waits.0).0) held

      follower : IsFollower t u
      follower = record { sem = s; known = waits.0; waits = waits.1; held = held }

      t_active : IsActive g t s past
      t_active = all_active g rules made t s waits.0 (waiting-engaged g t s past waits.1)

      u_active : IsActive g u s past
      u_active = all_active g rules made u s waits.0 (holder-engaged g u s past held)

      u_free : awaits g u past ≡ None
      u_free = followed-free t u follower

      -- the key of the holder is no lower than the waiter's
      lifted : higher (base_key g t past) (effective_key g u past) ≡ false
      lifted = rw (key-is u) (highest-of (λ v. base_key g v past) t (followers (λ v. waits_for g v past) (tasks g) u) (base_key g u past) (is-follower t u (user-task g s t t_active.user).0 next_t))

      candidates : List ℕ
      candidates = filter (λ v. eligible g v past) (tasks_of g c)

      ranked : List Ranked
      ranked = sorted (map (λ v. record { key = effective_key g v past; task = v }) candidates)

      among : has u (tasks_ranked ranked) ≡ true
      among = has-sorted u (map (λ v. record { key = effective_key g v past; task = v }) candidates) ∙ rw (tasks-ranked g past candidates, has-filter (λ v. eligible g v past) u (tasks_of g c), home-tasks_of g u (user-task g s u u_active.user).0, is-eligible u u_active.exists_now u_active.awake u_free)

      top_is : top g c past ≡ take (cpus g c) (tasks_ranked ranked)
      top_is = refl

      absent-blocks : has u (top g c past) ≡ false → is_blocked g t past ≡ false
      absent-blocks absent = not_blocked g t past ys (distinct-map y_of (top g c past) (distinct-top g c past) injective) (rw t_home (omega (arith, length-mapped y_of (top g c past), full))) each
        where
          t_home : home g t ≡ c
          t_home = follower-home t u follower

          full : length (top g c past) ≡ cpus g c
          full = ap length top_is ∙ full-take (cpus g c) (tasks_ranked ranked) u among (rw top_is at absent)

          y_of : ℕ → ℕ
          y_of x = (effective_key g x past).minor

          ys : List ℕ
          ys = map y_of (top g c past)

          y_is : (x y : ℕ) → IsOwner c x y → y_of x ≡ y
          y_is x y o = ap (λ (k : Key). k.minor) o.key ∙ minor-is g y past Omlp (global-omlp g.setup.plugin global)

          no_higher : (x : ℕ) → has x (top g c past) ≡ true → higher (effective_key g u past) (effective_key g x past) ≡ false
          no_higher x k = cut-off (λ v. effective_key g v past) (cpus g c) ranked u x (keys-sorted (λ v. effective_key g v past) (map (λ v. record { key = effective_key g v past; task = v }) candidates) (keys-map (λ v. effective_key g v past) candidates)) (ranked-sorted (map (λ v. record { key = effective_key g v past; task = v }) candidates)) among (rw top_is at absent) (rw top_is at k)

          free : (x : ℕ) → has x (top g c past) ≡ true → waits_for g x past ≡ None
          free x k = next-none x (eligible-facts x (top-eligible g c x past k).1).1

          -- the owner of a key of the top is not the waiter
          not_t : (x y : ℕ) → has x (top g c past) ≡ true → IsOwner c x y → y == t ≡ false
          not_t x y k o = unless _ (λ m. split (eqb-true y t m) o.how)
            where
              split : y ≡ t → (y ≡ x) ⊎ (is x (waits_for g y past) ≡ true) → ⊥
              split e (inl n) = let same : t ≡ x = sym e ∙ n in let m : waits_for g t past ≡ None = rw same (free x k) in let z : is u None ≡ true = rw m at next_t in cc
              split e (inr n) = let z : is x (waits_for g t past) ≡ true = rw e at n in let same : x ≡ u = is_one x u (waits_for g t past) z next_t in let there : has u (top g c past) ≡ true = subst (λ n. has n (top g c past) ≡ true) same k in clash _ there absent

          over_waiter : (x y : ℕ) → has x (top g c past) ≡ true → IsOwner c x y → above g past y t ≡ true
          over_waiter x y k o =
              let not_over : higher (base_key g t past) (effective_key g x past) ≡ false = unless _ (λ m. clash _ (higher-mixed (base_key g t past) (effective_key g u past) (effective_key g x past) lifted m) (no_higher x k)) in
              let other : (base_key g t past).minor == (base_key g y past).minor ≡ false = rw (minor-is g t past Omlp (global-omlp g.setup.plugin global), minor-is g y past Omlp (global-omlp g.setup.plugin global)) (turned t y ∙ not_t x y k o) in
              higher-total (base_key g t past) (base_key g y past) other (rw o.key at not_over)

          each : (y : ℕ) → has y ys ≡ true → (has y (tasks_of g (home g t)) ≡ true) × (exists g y past ≡ true) × (above g past y t ≡ true)
          each y k =
              let x = map-back y_of (top g c past) y k in
              let o = owner c x.0 x.1 in
              let same : o.0 ≡ y = sym (x.2 ∙ y_is x.0 o.0 o.1) in
              (subst (λ n. has n (tasks_of g (home g t)) ≡ true) same (rw t_home o.1.there), subst (λ n. exists g n past ≡ true) same o.1.exists_now, subst (λ n. above g past n t ≡ true) same (over_waiter x.0 o.0 x.1 o.1))

          injective : (x z : ℕ) → has x (top g c past) ≡ true → has z (top g c past) ≡ true → y_of x ≡ y_of z → x ≡ z
          injective x z hx hz e = split (owner c x hx) (owner c z hz)
            where
              lead : (y : ℕ) (v : ℕ) → waits_for g y past ≡ None → is v (waits_for g y past) ≡ true → ⊥
              lead y v n k = let m : is v None ≡ true = rw n at k in cc

              split : (y : ℕ) × IsOwner c x y → (y : ℕ) × IsOwner c z y → x ≡ z
              split a b = cases (sym (y_is x a.0 a.1) ∙ e ∙ y_is z b.0 b.1) a.1.how b.1.how
                where
                  cases : a.0 ≡ b.0 → (a.0 ≡ x) ⊎ (is x (waits_for g a.0 past) ≡ true) → (b.0 ≡ z) ⊎ (is z (waits_for g b.0 past) ≡ true) → x ≡ z
                  cases q (inl m) (inl n) = sym m ∙ q ∙ n
                  cases q (inl m) (inr n) = absurd (lead b.0 z (rw (← q, m) (free x hx)) n)
                  cases q (inr m) (inl n) = absurd (lead a.0 x (rw (q, n) (free z hz)) m)
                  cases q (inr m) (inr n) = is_one x z (waits_for g a.0 past) m (rw q n)

      by_case : (b : Bool) → has u (top g c past) ≡ b → has u (top g c past) ≡ true
      by_case true e = e
      by_case false e = absurd (clash _ blocked (absent-blocks e))

pub holder_is_linked : HolderIsLinked
holder_is_linked g past valid made t s global w blocked = by_holder (holder g s past) refl
  where
    waits : (has s (sems g) ≡ true) × (has t (sem_state g s past).waiting ≡ true)
    waits = awaits-waits g t s past w

    by_holder : (o : Option ℕ) → holder g s past ≡ o → HasLinkedHolder g s past
    by_holder None e = let held : is_none {T = ℕ} None ≡ false = rw e at (has_holder g (rules_of g valid) made t s waits.0 (sem-facts g (rules_of g valid) past made global s waits.0).0 waits.1) in cc
    by_holder (Some u) e = record { task = u; holds_it = e; linked = links-top g (home g u) (processor-home g (home g u)) made u ∙ holder-linked g (rules_of g valid) past made global t s u blocked w e }
