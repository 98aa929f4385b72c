-- Who holds or waits is a user; and in a cluster with users of SRP semaphores nobody waits, and each task has its base key.
use Rattle.std.proofs.Common.{Bool, List, [], arith, eqb-true, false, inl, inr, length, map, refl, subst, sym, suc, true, zero, ℕ, ◌&&◌, ◌||◌, ◌∙◌, ◌∷◌, ◌≡◌, ◌≤◌, ◌⊎◌}
use Rattle.std.specs.List.{list_any}
use Rattle.std.specs.Prelude.{None, Option, Some, filter, ◌==◌}
use Rattle.rt_task.specs.RuleWords.{is_fmlp, stands_under}
use Rattle.rt_task.specs.declared.PluginKind.TheVariants as plugins
use Rattle.rt_task.specs.declared.PluginKind.{PluginKind}
use Rattle.rt_task.specs.declared.Protocol.TheVariants.{Fmlp, Mpcp, Omlp, Pcp, Srp}
use Rattle.rt_task.specs.declared.Protocol.{Protocol}
use Rattle.rt_rules.specs.KeyOrder.{higher}
use Rattle.rt_rules.specs.Keys.{Ranked, sorted}
use Rattle.rt_rules.specs.Numbers.{first, has, is}
use Rattle.rt_rules.specs.Walks.{followers, walk}
use Rattle.rt_model.specs.BaseKeys.{above, base_key}
use Rattle.rt_model.specs.Boosts.{boost, boost_by, boost_of}
use Rattle.rt_model.specs.EffectiveKeys.{effective_key, next_at, next_by, waits_for}
use Rattle.rt_model.specs.Group.{Group, cpus, declares, home, protocol, sems, tasks, tasks_of, users}
use Rattle.rt_model.specs.Holders.{awaits, holder, holds, sem_state}
use Rattle.rt_model.specs.Past.{Event, Past, sem_act}
use Rattle.rt_model.specs.Reachable.{IsReachable}
use Rattle.rt_model.specs.StackPolicy.{has_srp, is_srp}
use Rattle.rt_model.specs.Tops.{eligible, ranking, top}
use Rattle.rt_rules.specs.SemState.{Asks}
use Rattle.rt_rules.proofs.BoolLaws.{clash, either, or_true, unless}
use Rattle.rt_rules.proofs.MemberLaws.{equal_self, has-filter, has-first, some-is}
use Rattle.rt_rules.proofs.RankedLaws.{has-sorted, tasks_ranked}
use Rattle.rt_rules.proofs.RankingLaws.{cut-off, keys-map, keys-sorted, ranked-sorted}
use Rattle.rt_model.proofs.TopLaws.{length-top, tasks-ranked}
use Rattle.rt_laws.proofs.semaphores.Asked.{Asked, asked}
use Rattle.rt_laws.proofs.jobs.BaseKeyLaws.{above-order}
use Rattle.rt_laws.proofs.jobs.Engaged.{engaged, engaged-step, holder-engaged, nobody-engaged, waiting-engaged}
use Rattle.rt_laws.proofs.GroupLaws.{user-task}
use Rattle.rt_laws.proofs.semaphores.Holding.{one-holds}
use Rattle.rt_laws.proofs.Moves.{by_moves}
use Rattle.rt_laws.proofs.Rules.{MeetsRules}
use Rattle.rt_laws.proofs.semaphores.Waiting.{awaits-waits, none-waits, srp-waiting}

-- ---- whoever holds or waits is a user of the semaphore

abbrev AllUsers : Group → Past → Type 0
AllUsers g past = (t s : ℕ) → engaged g t s past ≡ true → has t (users g s) ≡ true

users-step : (g : Group) (e : Event) (past : Past) → Asked g e past → AllUsers g past → AllUsers g (e ∷ past)
users-step g e past asks before t s h = split (engaged-step g t s e past h)
  where
    split : (engaged g t s past ≡ true) ⊎ (sem_act e ≡ Asks t s) → has t (users g s) ≡ true
    split (inl k) = before t s k
    split (inr k) = (asks t s k).user

pub all_users : (g : Group) → MeetsRules g → {past : Past} → IsReachable g past → AllUsers g past
all_users g rules made = by_moves g (AllUsers g) (λ t s h. absurd (clash _ h (nobody-engaged g t s))) (λ past e made move before. users-step g e past (asked g rules made move) before) made

-- ---- a cluster with a user of an SRP semaphore

pub record IsSrpCluster (g : Group) (c : ℕ) : Type 0 where
  pub plugin : g.setup.plugin ≡ plugins.PsnEdf
  pub stands : stands_under Srp g.setup.plugin ≡ true
  pub one_cpu : cpus g c ≡ 1
  pub has_it : has_srp g c ≡ true
  pub uses_srp : (t s : ℕ) → has t (users g s) ≡ true → home g t ≡ c → protocol g s ≡ Srp

srp-plugin : (p : PluginKind) → stands_under Srp p ≡ true → p ≡ plugins.PsnEdf
srp-plugin plugins.GsnEdf h = cc
srp-plugin plugins.CEdf h = cc
srp-plugin plugins.PsnEdf h = refl
srp-plugin plugins.PFp h = cc
srp-plugin plugins.PRes h = cc

psn-protocol : (x : Protocol) → stands_under x plugins.PsnEdf ≡ true → is_fmlp x ≡ false → x ≡ Srp
psn-protocol Fmlp h k = cc
psn-protocol Omlp h k = cc
psn-protocol Pcp h k = cc
psn-protocol Mpcp h k = cc
psn-protocol Srp h k = refl

any-has : (test : ℕ → Bool) (xs : List ℕ) (x : ℕ) → has x xs ≡ true → test x ≡ true → list_any test xs ≡ true
any-has test [] x h k = cc
any-has test (y ∷ ys) x h k = split (either (x == y) _ h) (λ m. any-has test ys x m k)
  where
    split : (x == y ≡ true) ⊎ (has x ys ≡ true) → (has x ys ≡ true → list_any test ys ≡ true) → test y || list_any test ys ≡ true
    split (inl m) rec = let e : test y ≡ true = rw (eqb-true x y m) at k in rw e
    split (inr m) rec = rw (rec m) (or_true (test y))

pub srp_cluster : (g : Group) → MeetsRules g → (c t s : ℕ) → protocol g s ≡ Srp → has t (users g s) ≡ true → home g t ≡ c → IsSrpCluster g c
unfolding has_srp
srp_cluster g rules c t s p h at = record {
  plugin = plugin;
  stands = stands;
  one_cpu = rules.is_single c (rw plugin) (rw at at (rules.has_home t user.0));
  has_it = any-has (λ r. is_srp (protocol g r) && list_any (λ u. home g u == c) (users g r)) (sems g) s known (rw (p, any-has (λ u. home g u == c) (users g s) t h (rw at (equal_self c))));
  uses_srp = uses;
}
  where
    user : (has t (tasks g) ≡ true) × (declares g t s ≡ true)
    user = user-task g s t h

    known : has s (sems g) ≡ true
    known = rules.is_known t s user.0 user.1

    stands : stands_under Srp g.setup.plugin ≡ true
    stands = rw p at (rules.is_allowed s known)

    plugin : g.setup.plugin ≡ plugins.PsnEdf
    plugin = srp-plugin g.setup.plugin stands

    uses : (u r : ℕ) → has u (users g r) ≡ true → home g u ≡ c → protocol g r ≡ Srp
    uses u r k same =
        let d = user-task g r u k in
        psn-protocol (protocol g r) (subst (λ (q : PluginKind). stands_under (protocol g r) q ≡ true) plugin (rules.is_allowed r (rules.is_known u r d.0 d.1))) (rules.apart s r t u p h d.0 (same ∙ sym at) d.1)

-- ---- walks that lead to nobody

walk-misses : (next : ℕ → Option ℕ) (t : ℕ) → ((u : ℕ) → next u ≡ Some t → ⊥) → (n : ℕ) (o : Option ℕ) → (o ≡ Some t → ⊥) → has t (walk next n o) ≡ false
walk-misses next t miss zero o h = refl
walk-misses next t miss (suc n) None h = refl
walk-misses next t miss (suc n) (Some u) h = by_case (t == u) refl (walk-misses next t miss n (next u) (miss u))
  where
    by_case : (b : Bool) → t == u ≡ b → has t (walk next n (next u)) ≡ false → t == u || has t (walk next n (next u)) ≡ false
    by_case true e k = let same : t ≡ u = eqb-true t u e in absurd (h (rw same))
    by_case false e k = rw (e, k)

filter-none : (p : ℕ → Bool) (xs : List ℕ) → ((x : ℕ) → p x ≡ false) → filter p xs ≡ []
filter-none p [] h = refl
filter-none p (x ∷ xs) h = rw (h x) (filter-none p xs h)

pair-of-one : (xs : List ℕ) (t u : ℕ) → length xs ≤ 1 → has t xs ≡ true → has u xs ≡ true → u ≡ t
pair-of-one [] t u n h k = cc
pair-of-one (x ∷ []) t u n h k = split (either (t == x) false h) (either (u == x) false k)
  where
    split : (t == x ≡ true) ⊎ (false ≡ true) → (u == x ≡ true) ⊎ (false ≡ true) → u ≡ t
    split (inl a) (inl b) = eqb-true u x b ∙ sym (eqb-true t x a)
    split (inr a) b = cc
    split (inl a) (inr b) = cc
pair-of-one (x ∷ y ∷ xs) t u n h k = absurd (omega arith)

module _ (g : Group) (rules : MeetsRules g) (c : ℕ) (cluster : IsSrpCluster g c) (past : Past) (made : IsReachable g past) where
  waits_not : (t s : ℕ) → home g t ≡ c → has t (sem_state g s past).waiting ≡ true → ⊥
  waits_not t s at w =
      let p : protocol g s ≡ Srp = cluster.uses_srp t s (all_users g rules made t s (waiting-engaged g t s past w)) at in
      let m : has t [] ≡ true = rw (srp-waiting g s past p) at w in
      cc

  pub awaits-none : (t : ℕ) → home g t ≡ c → awaits g t past ≡ None
  awaits-none t at = none-waits g t past (λ s there. unless _ (λ w. waits_not t s at w))

  holds_srp : (t s : ℕ) → home g t ≡ c → is t (holder g s past) ≡ true → protocol g s ≡ Srp
  holds_srp t s at h = cluster.uses_srp t s (all_users g rules made t s (holder-engaged g t s past h)) at

  pub unboosted : (t : ℕ) → home g t ≡ c → boost g t past ≡ None
  unfolding boost boost_of boost_by
  unboosted t at = by_first (first (holds g t past)) refl
    where
      by_first : (o : Option ℕ) → first (holds g t past) ≡ o → boost_of g t o past ≡ None
      by_first None e = refl
      by_first (Some s) e = rw (holds_srp t s at (one-holds g t s past (has-first s (holds g t past) (some-is s (first (holds g t past)) e))).1)

  pub not_followed : (t u : ℕ) → home g t ≡ c → waits_for g u past ≡ Some t → ⊥
  unfolding waits_for next_at next_by
  not_followed t u at h = by_wait (awaits g u past) refl h
    where
      by_protocol : (s : ℕ) (x : Protocol) → protocol g s ≡ x → awaits g u past ≡ Some s → next_by g x s u past ≡ Some t → ⊥
      by_protocol s Pcp p a k = let m : false ≡ true = rw (p, cluster.plugin) at (rules.is_allowed s (awaits-waits g u s past a).0) in cc
      by_protocol s Srp p a k = let m : has u [] ≡ true = rw (srp-waiting g s past p) at (awaits-waits g u s past a).1 in cc
      by_protocol s Fmlp p a k = let m : Fmlp ≡ Srp = sym p ∙ holds_srp t s at (some-is t (holder g s past) k) in cc
      by_protocol s Omlp p a k = let m : Omlp ≡ Srp = sym p ∙ holds_srp t s at (some-is t (holder g s past) k) in cc
      by_protocol s Mpcp p a k = let m : Mpcp ≡ Srp = sym p ∙ holds_srp t s at (some-is t (holder g s past) k) in cc

      by_wait : (o : Option ℕ) → awaits g u past ≡ o → next_at g u o past ≡ Some t → ⊥
      by_wait None e k = cc
      by_wait (Some s) e k = by_protocol s (protocol g s) refl e k

  pub key-is_base : (t : ℕ) → home g t ≡ c → effective_key g t past ≡ base_key g t past
  unfolding effective_key
  key-is_base t at = rw (unboosted t at, nobody)
    where
      nobody : followers (λ u. waits_for g u past) (tasks g) t ≡ []
      nobody = filter-none (λ u. has t (walk (λ v. waits_for g v past) (length (tasks g)) (waits_for g u past))) (tasks g) (λ u. walk-misses (λ v. waits_for g v past) t (λ v. not_followed t v at) (length (tasks g)) (waits_for g u past) (not_followed t u at))

  -- of two eligible tasks of the cluster the one in its top has the higher base key
  pub top-above : (t u : ℕ) → home g t ≡ c → has t (top g c past) ≡ true → home g u ≡ c → has u (tasks_of g c) ≡ true → eligible g u past ≡ true → u == t ≡ false → above g past t u ≡ true
  unfolding top ranking above
  top-above t u t_home t_top u_home u_there u_eligible ne = (above-order g past Srp cluster.stands).total u t ne lower
    where
      candidates : List ℕ
      candidates = filter (λ v. eligible g v past) (tasks_of g c)

      keyed : List Ranked
      keyed = map (λ v. record { key = effective_key g v past; task = v }) candidates

      among : has u (tasks_ranked (sorted keyed)) ≡ true
      among = has-sorted u keyed ∙ rw (tasks-ranked g past candidates, has-filter (λ v. eligible g v past) u (tasks_of g c), u_there, u_eligible)

      absent : has u (top g c past) ≡ false
      absent = unless _ (λ k. let few : length (top g c past) ≤ 1 = subst (λ n. length (top g c past) ≤ n) cluster.one_cpu (length-top g c past) in let same : u ≡ t = pair-of-one (top g c past) t u few t_top k in let m : t == t ≡ false = rw same at ne in clash _ (equal_self t) m)

      lower : higher (base_key g u past) (base_key g t past) ≡ false
      lower = rw (key-is_base u u_home, key-is_base t t_home) at (cut-off (λ v. effective_key g v past) (cpus g c) (sorted keyed) u t (keys-sorted (λ v. effective_key g v past) keyed (keys-map (λ v. effective_key g v past) candidates)) (ranked-sorted keyed) among absent t_top)
