-- Boosted holders are above every base key, eligible, and linked unless a higher one is.
use Rattle.std.proofs.Common.{Bool, List, [], ap, arith, eqb-true, false, inl, inr, length, map, refl, subst, sym, take, true, ℕ, ◌∙◌, ◌∷◌, ◌≡◌, ◌≤◌, ◌⊎◌}
use Rattle.std.proofs.lemmas.Bool.Decides.{nat_tests}
use Rattle.std.specs.Prelude.{None, Option, Some, filter, ◌==◌, ◌&&◌}
use Rattle.std.specs.List.{list_any}
use Rattle.rt_task.specs.RuleWords.{is_fmlp, is_stacked, stands_under}
use Rattle.rt_task.specs.Validity.{IsValid}
use Rattle.rt_task.specs.declared.PluginKind.TheVariants as plugins
use Rattle.rt_task.specs.declared.PluginKind.{PluginKind}
use Rattle.rt_task.specs.declared.Protocol.TheVariants.{Fmlp, Mpcp, Omlp, Pcp, Srp}
use Rattle.rt_task.specs.declared.Protocol.{Protocol}
use Rattle.rt_rules.specs.KeyOrder.{higher}
use Rattle.rt_rules.specs.declared.Key.{Key}
use Rattle.rt_rules.specs.Keys.{Ranked, sorted}
use Rattle.rt_rules.specs.Numbers.{first, has, is}
use Rattle.rt_rules.specs.Walks.{followers}
use Rattle.rt_model.specs.BaseKeys.{base_key, key_by}
use Rattle.rt_model.specs.Boosts.{boost, boost_by, boost_of, boosts_fmlp, granted_at, mpcp_ceiling}
use Rattle.rt_model.specs.Ceilings.{is_pcp}
use Rattle.rt_model.specs.EffectiveKeys.{effective_key, waits_for}
use Rattle.rt_model.specs.Group.{Group, cpus, declares, home, protocol, sems, tasks, tasks_of, users}
use Rattle.rt_model.specs.Holders.{awaits, holder, holds}
use Rattle.rt_model.specs.Past.{Past}
use Rattle.rt_model.specs.Reachable.{IsReachable}
use Rattle.rt_model.specs.Releases.{ready}
use Rattle.rt_model.specs.StackPolicy.{has_srp, is_srp}
use Rattle.rt_model.specs.Tops.{eligible, is_admitted, is_served, ranking, top}
use Rattle.rt_rules.proofs.BoolLaws.{clash, unless}
use Rattle.rt_rules.proofs.KeyLaws.{highest-owner}
use Rattle.rt_rules.proofs.MemberLaws.{equal_self, has-filter, has-first, is-some, none-any, some-is}
use Rattle.rt_rules.proofs.RankedLaws.{has-sorted, tasks_ranked}
use Rattle.rt_rules.proofs.RankingLaws.{cut-off, full-take, keys-map, keys-sorted, ranked-sorted}
use Rattle.rt_model.proofs.PastLaws.{links-top, processor-home}
use Rattle.rt_model.proofs.TopLaws.{tasks-ranked}
use Rattle.rt_laws.specs.BoostedHolders.{BoostedIsLinked, GoesBefore, HolderIsBoosted, HoldsBoosting, IsPassed, boosts_holder, is_linked}
use Rattle.rt_laws.proofs.jobs.Engaged.{holder-engaged}
use Rattle.rt_laws.proofs.jobs.EngagedJobs.{IsActive, all_active}
use Rattle.rt_laws.proofs.GroupLaws.{home-tasks_of, user-task}
use Rattle.rt_laws.proofs.semaphores.Holding.{holds-one, one-holds}
use Rattle.rt_laws.proofs.Rules.{MeetsRules}
use Rattle.rt_laws.proofs.semaphores.SemaphoreLaws.{holder_holds_one, holder_waits_not}
use Rattle.rt_laws.proofs.ValidSets.{rules_of}

-- ---- by the plugin and the protocol

boosting-not_pcp : (p : PluginKind) (x : Protocol) → boosts_holder p x ≡ true → is_pcp x ≡ false
boosting-not_pcp p Fmlp h = refl
boosting-not_pcp p Omlp h = refl
boosting-not_pcp p Mpcp h = refl
boosting-not_pcp p Pcp h = cc
boosting-not_pcp p Srp h = refl

boosting-not_stacked : (p : PluginKind) (x : Protocol) → boosts_holder p x ≡ true → is_stacked x ≡ false
boosting-not_stacked p Fmlp h = refl
boosting-not_stacked p Omlp h = refl
boosting-not_stacked p Mpcp h = refl
boosting-not_stacked p Pcp h = cc
boosting-not_stacked p Srp h = cc

-- under PSN-EDF what boosts is FMLP
boosting-fmlp : (p : PluginKind) (x : Protocol) → p ≡ plugins.PsnEdf → boosts_holder p x ≡ true → stands_under x p ≡ true → is_fmlp x ≡ true
boosting-fmlp p Fmlp e h a = refl
boosting-fmlp p Omlp e h a = cc
boosting-fmlp p Mpcp e h a = let k : stands_under Mpcp plugins.PsnEdf ≡ true = subst (λ q. stands_under Mpcp q ≡ true) e a in cc
boosting-fmlp p Pcp e h a = cc
boosting-fmlp p Srp e h a = cc

-- under a plugin with semaphores no reservation serves
served : (g : Group) (t : ℕ) (past : Past) (p : PluginKind) (x : Protocol) → stands_under x p ≡ true → is_served g p t past ≡ true
unfolding is_served
served g t past plugins.GsnEdf x h = refl
served g t past plugins.CEdf x h = refl
served g t past plugins.PsnEdf x h = refl
served g t past plugins.PFp x h = refl
served g t past plugins.PRes Fmlp h = cc
served g t past plugins.PRes Omlp h = cc
served g t past plugins.PRes Mpcp h = cc
served g t past plugins.PRes Pcp h = cc
served g t past plugins.PRes Srp h = cc

-- each base key is of band 2
base-band : (g : Group) (t : ℕ) (past : Past) → (base_key g t past).band ≡ 2
unfolding base_key key_by
base-band g t past = by_plugin g.setup.plugin
  where
    by_plugin : (p : PluginKind) → (key_by g p t past).band ≡ 2
    by_plugin plugins.GsnEdf = refl
    by_plugin plugins.CEdf = refl
    by_plugin plugins.PsnEdf = refl
    by_plugin plugins.PFp = refl
    by_plugin plugins.PRes = refl

-- a boost is of a band below, and its last part is the task's number
record IsBoost (t : ℕ) (k : Key) : Type 0 where
  low : k.band ≤ 1
  minor_is : k.minor ≡ t

-- a semaphore boosts its holder
record Boosts (g : Group) (x : Protocol) (s t : ℕ) (past : Past) : Type 0 where
  boosts : boosts_holder g.setup.plugin x ≡ true
  key : Key
  key_is : boost_by g x s t past ≡ Some key
  is_boost : IsBoost t key

-- it does, or does not
boost-cases : (g : Group) (x : Protocol) (s t : ℕ) (past : Past) → Boosts g x s t past ⊎ (boost_by g x s t past ≡ None)
unfolding boost_by
boost-cases g Mpcp s t past = inl (record { boosts = refl; key = record { band = 1; major = mpcp_ceiling g s t; minor = t }; key_is = refl; is_boost = record { low = omega arith; minor_is = refl } })
boost-cases g Fmlp s t past = by_case (boosts_fmlp g.setup.plugin) refl
  where
    by_case : (b : Bool) → boosts_fmlp g.setup.plugin ≡ b → Boosts g Fmlp s t past ⊎ (boost_by g Fmlp s t past ≡ None)
    by_case true e = inl (record { boosts = e; key = record { band = 0; major = granted_at g s past; minor = t }; key_is = rw e refl; is_boost = record { low = omega arith; minor_is = refl } })
    by_case false e = inr (rw e refl)
boost-cases g Omlp s t past = inr refl
boost-cases g Pcp s t past = inr refl
boost-cases g Srp s t past = inr refl

some_or_none : (o : Option Key) (k : Key) → o ≡ Some k → o ≡ None → ⊥
some_or_none o k h n = cc

never_unboosted : (g : Group) (x : Protocol) (s t : ℕ) (past : Past) → boosts_holder g.setup.plugin x ≡ true → boost_by g x s t past ≡ None → ⊥
unfolding boost_by
never_unboosted g Fmlp s t past k n = some_or_none (boost_by g Fmlp s t past) (record { band = 0; major = granted_at g s past; minor = t }) (rw k refl) n
never_unboosted g Mpcp s t past k n = cc
never_unboosted g Omlp s t past k n = cc
never_unboosted g Pcp s t past k n = cc
never_unboosted g Srp s t past k n = cc

mpcp-boost : (g : Group) (x : Protocol) (s t : ℕ) (past : Past) → x ≡ Mpcp → boost_by g x s t past ≡ Some (record { band = 1; major = mpcp_ceiling g s t; minor = t })
unfolding boost_by
mpcp-boost g x s t past h = rw h refl

fmlp-boost : (g : Group) (x : Protocol) (s t : ℕ) (past : Past) → x ≡ Fmlp → boosts_holder g.setup.plugin x ≡ true → boost_by g x s t past ≡ Some (record { band = 0; major = granted_at g s past; minor = t })
unfolding boost_by
fmlp-boost g x s t past h b = let k : boosts_fmlp g.setup.plugin ≡ true = rw h at b in rw (h, k) refl

-- ---- keys

key-boosted : (g : Group) (t : ℕ) (past : Past) (k : Key) → boost g t past ≡ Some k → effective_key g t past ≡ k
unfolding effective_key
key-boosted g t past k h = rw h refl

-- a task that is not boosted has somebody's base key
key-unboosted : (g : Group) (t : ℕ) (past : Past) → boost g t past ≡ None → (u : ℕ) × (effective_key g t past ≡ base_key g u past)
unfolding effective_key
key-unboosted g t past h = let q = highest-owner (λ v. base_key g v past) t (followers (λ u. waits_for g u past) (tasks g) t) in (q.0, rw h q.2)

low-over : (j k : Key) → j.band ≤ 1 → k.band ≡ 2 → higher j k ≡ true
low-over j k h m = grind (arith, nat_tests, h, m)

-- keys with different last parts are one above the other
one-above : (j k : Key) → j.minor == k.minor ≡ false → higher j k ≡ false → higher k j ≡ true
one-above j k h m = grind (arith, nat_tests, h, m)

module _ (g : Group) (valid : IsValid g.setup) (past : Past) (made : IsReachable g past) where
  rules : MeetsRules g
  rules = rules_of g valid

  -- the boost of a task is that of the one semaphore that it holds
  boost-is : (t s : ℕ) → HoldsBoosting g t s past → boost g t past ≡ boost_by g (protocol g s) s t past
  unfolding boost boost_of
  boost-is t s h = by_first (first (holds g t past)) refl
    where
      listed : has s (holds g t past) ≡ true
      listed = holds-one g t s past h.known (some-is t (holder g s past) h.holds_it)

      not_empty : (xs : List ℕ) → first xs ≡ None → has s xs ≡ true → ⊥
      not_empty [] e k = cc
      not_empty (x ∷ xs) e k = cc

      by_first : (o : Option ℕ) → first (holds g t past) ≡ o → boost_of g t o past ≡ boost_by g (protocol g s) s t past
      by_first None e = absurd (not_empty (holds g t past) e listed)
      by_first (Some r) e =
          let k = one-holds g t r past (has-first r (holds g t past) (some-is r (first (holds g t past)) e)) in
          let same : s ≡ r = holder_holds_one g past valid made t s r h.known k.0 (boosting-not_stacked g.setup.plugin (protocol g s) h.boosts) h.holds_it (is-some t (holder g r past) k.1) in
          rw same refl

  -- a task that is boosted holds such a semaphore
  boosted-holds : (t : ℕ) (k : Key) → boost g t past ≡ Some k → (s : ℕ) × HoldsBoosting g t s past
  unfolding boost boost_of
  boosted-holds t k h = by_first (first (holds g t past)) refl
    where
      by_first : (o : Option ℕ) → first (holds g t past) ≡ o → (s : ℕ) × HoldsBoosting g t s past
      by_first None e = let m : boost_of g t None past ≡ Some k = rw e at h in cc
      by_first (Some r) e = split (boost-cases g (protocol g r) r t past)
        where
          held : (has r (sems g) ≡ true) × (is t (holder g r past) ≡ true)
          held = one-holds g t r past (has-first r (holds g t past) (some-is r (first (holds g t past)) e))

          split : Boosts g (protocol g r) r t past ⊎ (boost_by g (protocol g r) r t past ≡ None) → (s : ℕ) × HoldsBoosting g t s past
          split (inl c) = (r, record { known = held.0; boosts = c.boosts; holds_it = is-some t (holder g r past) held.1 })
          split (inr c) = let m : boost_by g (protocol g r) r t past ≡ Some k = rw e at h in let n : None ≡ Some k = rw c at m in cc

  -- a boosted holder's key
  boosted-key : (t s : ℕ) → HoldsBoosting g t s past → IsBoost t (effective_key g t past)
  boosted-key t s h = split (boost-cases g (protocol g s) s t past)
    where
      split : Boosts g (protocol g s) s t past ⊎ (boost_by g (protocol g s) s t past ≡ None) → IsBoost t (effective_key g t past)
      split (inl c) = rw (key-boosted g t past c.key (boost-is t s h ∙ c.key_is)) c.is_boost
      split (inr c) = absurd (never_unboosted g (protocol g s) s t past h.boosts c)

  boosted-over : (t s u : ℕ) → HoldsBoosting g t s past → higher (effective_key g t past) (base_key g u past) ≡ true
  boosted-over t s u h = low-over (effective_key g t past) (base_key g u past) ((boosted-key t s h).low) (base-band g u past)

  active : (t s : ℕ) → HoldsBoosting g t s past → IsActive g t s past
  active t s h = all_active g rules made t s h.known (holder-engaged g t s past (some-is t (holder g s past) h.holds_it))

  -- where a task declares an FMLP semaphore, no task of its cluster declares an SRP semaphore
  no-srp : (t s : ℕ) → has t (tasks g) ≡ true → declares g t s ≡ true → is_fmlp (protocol g s) ≡ true → has_srp g (home g t) ≡ false
  unfolding has_srp
  no-srp t s there d f = none-any _ (sems g) (λ r known. by_protocol r (protocol g r) refl)
    where
      by_protocol : (r : ℕ) (x : Protocol) → protocol g r ≡ x → is_srp x && list_any (λ u. home g u == home g t) (users g r) ≡ false
      by_protocol r Srp e = none-any _ (users g r) (λ u h. unless _ (λ k. clash _ f (rules.apart r s u t e h there (sym (eqb-true _ _ k)) d)))
      by_protocol r Fmlp e = refl
      by_protocol r Omlp e = refl
      by_protocol r Mpcp e = refl
      by_protocol r Pcp e = refl

  admitted : (t s : ℕ) → HoldsBoosting g t s past → is_admitted g g.setup.plugin t past ≡ true
  unfolding is_admitted
  admitted t s h = by_plugin g.setup.plugin refl
    where
      by_plugin : (p : PluginKind) → g.setup.plugin ≡ p → is_admitted g p t past ≡ true
      by_plugin plugins.GsnEdf e = refl
      by_plugin plugins.CEdf e = refl
      by_plugin plugins.PsnEdf e =
          let w = user-task g s t ((active t s h).user) in
          rw (no-srp t s w.0 w.1 (boosting-fmlp g.setup.plugin (protocol g s) e h.boosts (rules.is_allowed s h.known))) refl
      by_plugin plugins.PFp e = refl
      by_plugin plugins.PRes e = refl

  boosted-eligible : (t s : ℕ) → HoldsBoosting g t s past → eligible g t past ≡ true
  unfolding eligible ready
  boosted-eligible t s h =
      let a = active t s h in
      let free : awaits g t past ≡ None = holder_waits_not g past valid made t s h.known (boosting-not_pcp g.setup.plugin (protocol g s) h.boosts) h.holds_it in
      rw (a.exists_now, a.awake, free, served g t past g.setup.plugin (protocol g s) (rules.is_allowed s h.known), admitted t s h) refl

  -- ---- the top of its cluster

  linked-is : (c t : ℕ) → is_linked g c t past ≡ has t (top g c past)
  linked-is c t = links-top g c (processor-home g c) made t

  linked-or_passed : (t s : ℕ) → HoldsBoosting g t s past → (is_linked g (home g t) t past ≡ true) ⊎ IsPassed g t past
  unfolding top ranking
  linked-or_passed t s h = by_case (has t (top g c past)) refl
    where
      c : ℕ
      c = home g t

      member : has t (tasks g) ≡ true
      member = (user-task g s t (active t s h).user).0

      candidates : List ℕ
      candidates = filter (λ v. eligible g v past) (tasks_of g c)

      ranked : List Ranked
      ranked = sorted (map (λ v. record { key = effective_key g v past; task = v }) candidates)

      among : has t (tasks_ranked ranked) ≡ true
      among = has-sorted t (map (λ v. record { key = effective_key g v past; task = v }) candidates) ∙ rw (tasks-ranked g past candidates, has-filter (λ v. eligible g v past) t (tasks_of g c), home-tasks_of g t member, boosted-eligible t s h)

      top_is : top g c past ≡ take (cpus g c) (tasks_ranked ranked)
      top_is = refl

      room : 1 ≤ cpus g c
      room = rules.has_cpu c (rules.has_home t member)

      passed : has t (top g c past) ≡ false → IsPassed g t past
      passed absent = by_top (top g c past) refl
        where
          full : length (top g c past) ≡ cpus g c
          full = ap length top_is ∙ full-take (cpus g c) (tasks_ranked ranked) t among (rw top_is at absent)

          no_higher : (x : ℕ) → has x (top g c past) ≡ true → higher (effective_key g t past) (effective_key g x past) ≡ false
          no_higher x k = cut-off (λ v. effective_key g v past) (cpus g c) ranked t x (keys-sorted (λ v. effective_key g v past) (map (λ v. record { key = effective_key g v past; task = v }) candidates) (keys-map (λ v. effective_key g v past) candidates)) (ranked-sorted (map (λ v. record { key = effective_key g v past; task = v }) candidates)) among (rw top_is at absent) (rw top_is at k)

          before : (x : ℕ) → has x (top g c past) ≡ true → GoesBefore g x t past
          before x k = by_boost (boost g x past) refl
            where
              by_boost : (o : Option Key) → boost g x past ≡ o → GoesBefore g x t past
              by_boost None e = let q = key-unboosted g x past e in let over : higher (effective_key g t past) (effective_key g x past) ≡ true = rw q.1 (boosted-over t s q.0 h) in absurd (clash _ over (no_higher x k))
              by_boost (Some j) e =
                  let b = boosted-holds x j e in
                  let other : t == x ≡ false = unless _ (λ m. let same : t ≡ x = eqb-true t x m in clash _ (subst (λ n. has n (top g c past) ≡ true) (sym same) k) absent) in
                  record {
                    sem = b.0;
                    boosted = b.1;
                    higher_key = one-above (effective_key g t past) (effective_key g x past) (rw ((boosted-key t s h).minor_is, (boosted-key x b.0 b.1).minor_is) other) (no_higher x k);
                  }

          by_top : (xs : List ℕ) → top g c past ≡ xs → IsPassed g t past
          by_top [] e = let none : length (top g c past) ≡ 0 = rw e refl in absurd (omega (arith, none, full, room))
          by_top (x ∷ xs) e = record { task = x; linked = linked-is c x ∙ rw (e, equal_self x) refl; all_before = λ u m. before u (sym (linked-is c u) ∙ m) }

      by_case : (b : Bool) → has t (top g c past) ≡ b → (is_linked g c t past ≡ true) ⊎ IsPassed g t past
      by_case true e = inl (linked-is c t ∙ e)
      by_case false e = inr (passed e)

pub holder_is_boosted : HolderIsBoosted
holder_is_boosted g past valid made t s h = record {
  by_ceiling = λ p. key-boosted g t past _ (boost-is g valid past made t s h ∙ mpcp-boost g (protocol g s) s t past p);
  by_grant = λ p. key-boosted g t past _ (boost-is g valid past made t s h ∙ fmlp-boost g (protocol g s) s t past p h.boosts);
  over_all = λ u. boosted-over g valid past made t s u h;
  may_run = boosted-eligible g valid past made t s h;
}

pub boosted_is_linked : BoostedIsLinked
boosted_is_linked g past valid made t s h = linked-or_passed g valid past made t s h
