-- What SRP says at each moment: a job that has begun stays eligible and is not overtaken, and one task keeps another from beginning.
use Rattle.std.proofs.Common.{Bool, List, [], arith, eqb-true, false, inl, inr, not, refl, true, ℕ, ◌&&◌, ◌||◌, ◌∙◌, ◌∷◌, ◌≡◌, ◌⊎◌}
use Rattle.std.proofs.lemmas.Bool.Decides.{nat_tests}
use Rattle.std.specs.List.{list_any}
use Rattle.std.specs.Prelude.{nat_le, nat_lt, ◌==◌}
use Rattle.rt_task.specs.Validity.{IsValid}
use Rattle.rt_task.specs.declared.PluginKind.TheVariants as plugins
use Rattle.rt_task.specs.declared.PluginKind.{PluginKind}
use Rattle.rt_rules.specs.Numbers.{has}
use Rattle.rt_model.specs.BaseKeys.{above}
use Rattle.rt_model.specs.Group.{Group, home, protocol, sems, task, users}
use Rattle.rt_model.specs.Past.{Past}
use Rattle.rt_model.specs.Reachable.{IsReachable}
use Rattle.rt_model.specs.Releases.{ready}
use Rattle.rt_model.specs.StackPolicy.{has_srp, is_srp, passes_srp, srp, srp_ceiling}
use Rattle.rt_model.specs.Tops.{eligible, is_admitted, is_served}
use Rattle.rt_model.specs.UnderWay.{under_way}
use Rattle.rt_rules.proofs.BoolLaws.{both, clash, either, not_true, or_true, unless}
use Rattle.rt_rules.proofs.MemberLaws.{equal_self, turned}
use Rattle.rt_rules.proofs.PairLaws.{has_pair}
use Rattle.rt_laws.proofs.jobs.BaseKeyLaws.{above-strict}
use Rattle.rt_laws.proofs.pcp.BlockedOnce.{any-pair, pair-any, stopped-by}
use Rattle.rt_laws.proofs.Rules.{MeetsRules}
use Rattle.rt_laws.proofs.srp.SrpState.{IsSrpState, IsSrpUser, is_srp-is, srp_state, srp_users, way-eligible}
use Rattle.rt_laws.proofs.srp.SrpUsers.{IsSrpCluster, awaits-none, srp_cluster}
use Rattle.rt_laws.proofs.ValidSets.{rules_of}
use Rattle.srp_laws.specs.Sections.{awaits_start, is_no_higher, reaches}
use Rattle.srp_laws.specs.StackLaws.{BegunIsEligible, BegunIsNotOvertaken, DelayedReaches, OneReaches}

-- one for which a test holds
one-of : (test : ℕ → Bool) (xs : List ℕ) → list_any test xs ≡ true → (x : ℕ) × (has x xs ≡ true) × (test x ≡ true)
one-of test [] h = cc
one-of test (y ∷ ys) h = split (either (test y) (list_any test ys) h) (one-of test ys)
  where
    split : (test y ≡ true) ⊎ (list_any test ys ≡ true) → (list_any test ys ≡ true → (x : ℕ) × (has x ys ≡ true) × (test x ≡ true)) → (x : ℕ) × (x == y || has x ys ≡ true) × (test x ≡ true)
    split (inl k) rec = (y, rw (equal_self y), k)
    split (inr k) rec = let q = rec k in (q.0, rw q.1 (or_true (q.0 == y)), q.2)

-- what is below a ceiling is of a higher level than what is not
over-level : (a b c : ℕ) → nat_lt b c ≡ true → nat_lt a c ≡ false → nat_le a b ≡ true → ⊥
over-level a b c h k m = grind (arith, nat_tests, h, k, m)

module _ (g : Group) (valid : IsValid g.setup) where
  rules : MeetsRules g
  rules = rules_of g valid

  pub srp_cluster-of : (c : ℕ) → has_srp g c ≡ true → IsSrpCluster g c
  unfolding has_srp
  srp_cluster-of c h =
      let s = one-of (λ s. is_srp (protocol g s) && list_any (λ t. home g t == c) (users g s)) (sems g) h in
      let k = both (is_srp (protocol g s.0)) _ s.2 in
      let t = one-of (λ t. home g t == c) (users g s.0) k.1 in
      srp_cluster g rules c t.0 s.0 (is_srp-is (protocol g s.0) k.0) t.1 (eqb-true (home g t.0) c t.2)

  -- ---- who reaches

  pub reaching : (t u : ℕ) (past : Past) → reaches g t u past ≡ true → (s : ℕ) × (has_pair u s (srp g (home g t) past) ≡ true) × (nat_lt (task g t).rel_deadline (srp_ceiling g s) ≡ false)
  unfolding reaches
  reaching t u past h =
      let q = any-pair u (λ s. not (nat_lt (task g t).rel_deadline (srp_ceiling g s))) (srp g (home g t) past) h in (q.0, q.1, not_true _ q.2)

  pub pair-reaches : (t u s : ℕ) (past : Past) → has_pair u s (srp g (home g t) past) ≡ true → nat_lt (task g t).rel_deadline (srp_ceiling g s) ≡ false → reaches g t u past ≡ true
  unfolding reaches
  pair-reaches t u s past h k = pair-any u s (λ r. not (nat_lt (task g t).rel_deadline (srp_ceiling g r))) (srp g (home g t) past) h (rw k)

  -- a task that reaches: it is of the cluster, which has SRP semaphores, and it is under way
  pub record IsReacher (t u : ℕ) (past : Past) : Type 0 where
    pub sem : ℕ
    pub pair : has_pair u sem (srp g (home g t) past) ≡ true
    pub under : nat_lt (task g t).rel_deadline (srp_ceiling g sem) ≡ false
    pub at_home : home g u ≡ home g t
    pub cluster : IsSrpCluster g (home g t)
    pub state : IsSrpState g (home g t) past
    pub way : under_way u past ≡ true

  pub reacher : {past : Past} → IsReachable g past → (t u : ℕ) → reaches g t u past ≡ true → IsReacher t u past
  reacher {past} made t u h =
      let q = reaching t u past h in
      let user : IsSrpUser g (home g t) u q.0 = srp_users g rules (home g t) made u q.0 q.1 in
      let cluster : IsSrpCluster g (home g t) = srp_cluster g rules (home g t) u q.0 user.of_srp user.user user.at_home in
      let state : IsSrpState g (home g t) past = srp_state g rules (home g t) cluster made in
      record { sem = q.0; pair = q.1; under = q.2; at_home = user.at_home; cluster = cluster; state = state; way = state.holds_way u q.0 q.1 }

  -- of what u holds another task that is under way, of no higher level than t, is below in its key
  pub reacher-above : {past : Past} → (t u v : ℕ) → IsReacher t u past → home g v ≡ home g t → under_way v past ≡ true → is_no_higher g t v ≡ true → v == u ≡ false → above g past u v ≡ true
  unfolding is_no_higher
  reacher-above {past} t u v r at way low ne = split (r.state.passed u r.sem v r.pair at way ne)
    where
      split : (nat_lt (task g v).rel_deadline (srp_ceiling g r.sem) ≡ true) ⊎ (above g past u v ≡ true) → above g past u v ≡ true
      split (inl k) = absurd (over-level (task g t).rel_deadline (task g v).rel_deadline (srp_ceiling g r.sem) k r.under low)
      split (inr k) = k

  pub not-both : (past : Past) (u v : ℕ) → above g past u v ≡ true → above g past v u ≡ true → ⊥
  not-both past u v h k = clash _ ((above-strict g past).trans u v u h k) ((above-strict g past).self u)

  pub one-reacher : {past : Past} → IsReachable g past → (t u v : ℕ) → is_no_higher g t u ≡ true → is_no_higher g t v ≡ true → reaches g t u past ≡ true → reaches g t v past ≡ true → u ≡ v
  one-reacher {past} made t u v lu lv hu hv = by_case (u == v) refl
    where
      a : IsReacher t u past
      a = reacher made t u hu

      b : IsReacher t v past
      b = reacher made t v hv

      by_case : (x : Bool) → u == v ≡ x → u ≡ v
      by_case true e = eqb-true u v e
      by_case false e = absurd (not-both past u v (reacher-above t u v a b.at_home b.way lv (turned v u ∙ e)) (reacher-above t v u b a.at_home a.way lu e))

  -- ---- who is kept back

  served-psn : (p : PluginKind) (t : ℕ) (past : Past) → p ≡ plugins.PsnEdf → is_served g p t past ≡ true
  unfolding is_served
  served-psn plugins.PsnEdf t past e = refl
  served-psn p t past e = cc

  passing-admitted : (p : PluginKind) (t : ℕ) (past : Past) → p ≡ plugins.PsnEdf → has_srp g (home g t) ≡ true → passes_srp g t past ≡ true → is_admitted g p t past ≡ true
  unfolding is_admitted
  passing-admitted plugins.PsnEdf t past e h k = rw (h, k, or_true (under_way t past))
  passing-admitted p t past e h k = cc

  passing-eligible : {past : Past} → IsReachable g past → (t : ℕ) → IsSrpCluster g (home g t) → ready g t past ≡ true → passes_srp g t past ≡ true → eligible g t past ≡ true
  unfolding eligible
  passing-eligible {past} made t cluster h k = rw (h, awaits-none g rules (home g t) cluster past made t refl, served-psn g.setup.plugin t past cluster.plugin, passing-admitted g.setup.plugin t past cluster.plugin cluster.has_it k)

  pub kept-back : {past : Past} → IsReachable g past → (t : ℕ) → IsSrpCluster g (home g t) → awaits_start g t past ≡ true → eligible g t past ≡ false → (u : ℕ) × (reaches g t u past ≡ true) × (u == t ≡ false)
  unfolding awaits_start passes_srp
  kept-back {past} made t cluster h k =
      let w = both (ready g t past) (not (under_way t past)) h in
      let stops : passes_srp g t past ≡ false = unless _ (λ p. clash _ (passing-eligible made t cluster w.0 p) k) in
      let q = stopped-by (λ v s. nat_lt (task g t).rel_deadline (srp_ceiling g s)) t (srp g (home g t) past) stops in
      let found : reaches g t q.0 past ≡ true = pair-reaches t q.0 q.1 past q.2 q.3 in
      (q.0, found, unless _ (λ e. clash _ (rw (eqb-true q.0 t e) at (reacher made t q.0 found).way) (not_true _ w.1)))

pub begun_is_eligible : BegunIsEligible
begun_is_eligible g past valid made t h k =
    let cluster : IsSrpCluster g (home g t) = srp_cluster-of g valid (home g t) h in
    way-eligible g (rules_of g valid) (home g t) cluster made t refl k ((srp_state g (rules_of g valid) (home g t) cluster made).started t refl k)

pub begun_is_not_overtaken : BegunIsNotOvertaken
begun_is_not_overtaken g past valid made q t u h r at k ne =
    let cluster : IsSrpCluster g (home g u) = srp_cluster-of g valid (home g u) h in
    (srp_state g (rules_of g valid) (home g u) cluster made).ahead q t u r at refl k ne

pub one_reaches : OneReaches
one_reaches g past valid made t u v lu lv hu hv = one-reacher g valid made t u v lu lv hu hv

pub delayed_reaches : DelayedReaches
delayed_reaches g past valid made t h there w k = kept-back g valid made t (srp_cluster-of g valid (home g t) h) w k
