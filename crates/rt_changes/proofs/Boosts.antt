-- What a boost is.
use Rattle.std.proofs.Common.{Bool, List, [], false, refl, sym, true, ℕ, ◌∙◌, ◌∷◌, ◌≡◌}
use Rattle.std.specs.Prelude.{None, Option, Some}
use Rattle.rt_task.specs.Validity.{IsValid}
use Rattle.rt_task.specs.declared.Protocol.TheVariants.{Fmlp, Mpcp, Omlp, Pcp, Srp}
use Rattle.rt_task.specs.declared.Protocol.{Protocol}
use Rattle.rt_task.specs.RuleWords.{is_stacked}
use Rattle.rt_rules.specs.Numbers.{first, has, is}
use Rattle.rt_model.specs.Boosts.{boost, boost_by, boost_of, granted_at}
use Rattle.rt_model.specs.Ceilings.{is_pcp}
use Rattle.rt_model.specs.Group.{Group, home, protocol, sems}
use Rattle.rt_model.specs.Holders.{holder, holds}
use Rattle.rt_model.specs.Reachable.{IsReachable}
use Rattle.rt_model.specs.Past.{Event, Past}
use Rattle.rt_rules.proofs.BoolLaws.{clash}
use Rattle.rt_rules.proofs.MemberLaws.{is-some, some-is}
use Rattle.rt_laws.proofs.jobs.Engaged.{holder-engaged}
use Rattle.rt_laws.proofs.Rules.{MeetsRules}
use Rattle.rt_laws.proofs.srp.SrpUsers.{all_users, srp_cluster, unboosted}
use Rattle.rt_laws.proofs.ValidSets.{rules_of}
use Rattle.rt_laws.proofs.semaphores.SemaphoreLaws.{holder_holds_one}
use Rattle.rt_laws.proofs.semaphores.Holding.{holds-one, one-holds}
use Rattle.rt_changes.specs.BoostChanges.{BoostOfHolder, BoostOfOthers, GrantIsNow}
use Rattle.rt_changes.proofs.Lists.{first-only}

pub boost-none : (g : Group) (u : ℕ) (past : Past) → ((r : ℕ) → has r (sems g) ≡ true → is_pcp (protocol g r) ≡ false → is u (holder g r past) ≡ false) → boost g u past ≡ None
unfolding boost boost_of boost_by
boost-none g u past none = by_first (first (holds g u past)) refl
  where
    by_protocol : (p : Protocol) (r : ℕ) → is_pcp p ≡ true → boost_by g p r u past ≡ None
    by_protocol Pcp r k = refl
    by_protocol Fmlp r k = cc
    by_protocol Omlp r k = cc
    by_protocol Mpcp r k = cc
    by_protocol Srp r k = cc

    there : (r : ℕ) (xs : List ℕ) → first xs ≡ Some r → has r xs ≡ true
    there r [] k = cc
    there r (x ∷ xs) k = let same : x ≡ r = cc in rw (same, some-is r (Some r) refl)

    of_pcp : (r : ℕ) → first (holds g u past) ≡ Some r → (b : Bool) → is_pcp (protocol g r) ≡ b → b ≡ true
    of_pcp r k true m = refl
    of_pcp r k false m = let q = one-holds g u r past (there r (holds g u past) k) in absurd (clash _ q.1 (none r q.0 m))

    by_first : (o : Option ℕ) → first (holds g u past) ≡ o → boost_of g u o past ≡ None
    by_first None k = refl
    by_first (Some r) k = by_protocol (protocol g r) r (of_pcp r k (is_pcp (protocol g r)) refl)

srp-gives_none : (g : Group) (r u : ℕ) (past : Past) → boost_by g Srp r u past ≡ None
unfolding boost_by
srp-gives_none g r u past = refl

srp-unboosted : (g : Group) → MeetsRules g → (u r : ℕ) (past : Past) → IsReachable g past → protocol g r ≡ Srp → is u (holder g r past) ≡ true → boost_of g u (first (holds g u past)) past ≡ None
unfolding boost
srp-unboosted g rules u r past made e h = unboosted g rules (home g u) (srp_cluster g rules (home g u) u r e (all_users g rules made u r (holder-engaged g u r past h)) refl) past made u refl

-- of what is none of PCP a task holds one, or SRP semaphores, which give no boost
pub boost-is : (g : Group) (u r : ℕ) (past : Past) → IsValid g.setup → IsReachable g past → has r (sems g) ≡ true → is_pcp (protocol g r) ≡ false → is u (holder g r past) ≡ true → boost g u past ≡ boost_by g (protocol g r) r u past
unfolding boost boost_of
boost-is g u r past valid made there k h = by_kind (is_stacked (protocol g r)) refl
  where
    first_is : is_stacked (protocol g r) ≡ false → first (holds g u past) ≡ Some r
    first_is n = first-only r (holds g u past) (holds-one g u r past there h) (λ o m. let q = one-holds g u o past m in holder_holds_one g past valid made u r o there q.0 n (is-some u (holder g r past) h) (is-some u (holder g o past) q.1))

    -- under SRP the task has no boost
    unboosted_by : (p : Protocol) → protocol g r ≡ p → is_pcp p ≡ false → is_stacked p ≡ true → boost_of g u (first (holds g u past)) past ≡ boost_by g p r u past
    unboosted_by Srp e m n = srp-unboosted g (rules_of g valid) u r past made e h ∙ sym (srp-gives_none g r u past)
    unboosted_by Pcp e m n = cc
    unboosted_by Fmlp e m n = cc
    unboosted_by Omlp e m n = cc
    unboosted_by Mpcp e m n = cc

    by_kind : (b : Bool) → is_stacked (protocol g r) ≡ b → boost_of g u (first (holds g u past)) past ≡ boost_by g (protocol g r) r u past
    by_kind false n = rw (first_is n)
    by_kind true n = unboosted_by (protocol g r) refl k n

pub boost_by-left : (g : Group) (p : Protocol) (r u : ℕ) (e : Event) (past : Past) → granted_at g r (e ∷ past) ≡ granted_at g r past → boost_by g p r u (e ∷ past) ≡ boost_by g p r u past
unfolding boost_by
boost_by-left g Fmlp r u e past h = rw h
boost_by-left g Omlp r u e past h = refl
boost_by-left g Mpcp r u e past h = refl
boost_by-left g Pcp r u e past h = refl
boost_by-left g Srp r u e past h = refl

pub boost_of_holder : BoostOfHolder
boost_of_holder g past valid made s t there plain h = boost-is g t s past valid made there plain (some-is t (holder g s past) h)

pub boost_of_others : BoostOfOthers
boost_of_others g past valid made t none = boost-none g t past none

pub grant_is_now : GrantIsNow
unfolding granted_at
grant_is_now g e past valid made s t h before = rw (h, before)
