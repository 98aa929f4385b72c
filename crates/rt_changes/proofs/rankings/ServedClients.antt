-- Under P-RES a reservation's front client alone is eligible, while budget is left.
use Rattle.std.proofs.Common.{◌≡◌, ℕ, zero, suc, ◌≤◌, Bool, true, false, ◌&&◌, cond, List, [], ◌∷◌, length, refl, sym, ap, ◌∙◌, subst, arith}
use Rattle.std.specs.Prelude.{nat_lt, Option, None, Some, filter}
use Rattle.rt_task.specs.declared.PluginKind.{PluginKind}
use Rattle.rt_task.specs.declared.PluginKind.TheVariants as plugins
use Rattle.rt_task.specs.declared.Protocol.{Protocol}
use Rattle.rt_task.specs.declared.Protocol.TheVariants.{Fmlp, Mpcp, Omlp, Pcp, Srp}
use Rattle.rt_task.specs.RuleWords.{is_p_res, stands_under}
use Rattle.rt_task.specs.Validity.{IsValid}
use Rattle.rt_rules.specs.Numbers.{has, is, same}
use Rattle.rt_rules.specs.Placing.{tasks_in}
use Rattle.rt_rules.specs.Walks.{walk}
use Rattle.rt_rules.proofs.BoolLaws.{and_true, both, clash, neither}
use Rattle.rt_rules.proofs.KeyLaws.{foremost-some}
use Rattle.rt_rules.proofs.MemberLaws.{equal_self, has-filter, is-some}
use Rattle.rt_rules.proofs.PlacingLaws.{has-tasks_in}
use Rattle.rt_model.specs.BaseKeys.{base_key, key_by}
use Rattle.rt_model.specs.Boosts.{boost, boost_of}
use Rattle.rt_model.specs.EffectiveKeys.{effective_key, waits_for, next_at}
use Rattle.rt_model.specs.Group.{Group, clients, protocol, sems, served_by, tasks}
use Rattle.rt_model.specs.Holders.{awaits, holds}
use Rattle.rt_model.specs.Past.{Past}
use Rattle.rt_model.specs.Releases.{ready}
use Rattle.rt_model.specs.Reservations.{earlier, front, left}
use Rattle.rt_model.specs.Tops.{is_admitted, is_served, eligible}
use Rattle.rt_laws.proofs.ValidSets.{rules_of}
use Rattle.rt_changes.specs.Served.{serves, EligibleIsServed, AtMostTwoChange, KeysAreFixed}

pub p_res-is : (p : PluginKind) → is_p_res p ≡ true → p ≡ plugins.PRes
p_res-is plugins.PRes h = refl
p_res-is plugins.GsnEdf h = cc
p_res-is plugins.CEdf h = cc
p_res-is plugins.PsnEdf h = cc
p_res-is plugins.PFp h = cc

-- ---- there is no semaphore

none-stands : (x : Protocol) → stands_under x plugins.PRes ≡ false
none-stands Fmlp = refl
none-stands Omlp = refl
none-stands Pcp = refl
none-stands Mpcp = refl
none-stands Srp = refl

no_members : (xs : List ℕ) → ((x : ℕ) → has x xs ≡ true → ⊥) → xs ≡ []
no_members [] h = refl
no_members (x ∷ xs) h = absurd (h x (rw (equal_self x)))

pub no_sems : (g : Group) → IsValid g.setup → g.setup.plugin ≡ plugins.PRes → sems g ≡ []
no_sems g valid p = no_members (sems g) (λ s h. let k : stands_under (protocol g s) plugins.PRes ≡ true = subst (λ x. stands_under (protocol g s) x ≡ true) p ((rules_of g valid).is_allowed s h) in clash _ k (none-stands (protocol g s)))

pub awaits-none : (g : Group) → sems g ≡ [] → (t : ℕ) (past : Past) → awaits g t past ≡ None
unfolding awaits
awaits-none g none t past = rw none

pub holds-none : (g : Group) → sems g ≡ [] → (t : ℕ) (past : Past) → holds g t past ≡ []
unfolding holds
holds-none g none t past = rw none

-- ---- what is eligible

front-ready : (g : Group) (r t : ℕ) (past : Past) → is t (front g r past) ≡ true → ready g t past ≡ true
unfolding front
front-ready g r t past h =
    let f = foremost-some (earlier g past) (filter (λ u. ready g u past) (clients g r)) t (is-some t (front g r past) h) in
    (both _ _ (rw has-filter at f.0)).1

served-is : (g : Group) (p : PluginKind) → p ≡ plugins.PRes → (t : ℕ) (past : Past) → is_served g p t past ≡ nat_lt 0 (left g (served_by g t) past) && is t (front g (served_by g t) past)
unfolding is_served
served-is g p e t past = rw e

admitted-is : (g : Group) (p : PluginKind) → p ≡ plugins.PRes → (t : ℕ) (past : Past) → is_admitted g p t past ≡ true
unfolding is_admitted
admitted-is g p e t past = rw e

pub eligible-served : (g : Group) → IsValid g.setup → is_p_res g.setup.plugin ≡ true → (t : ℕ) (past : Past) → eligible g t past ≡ is t (serves g (served_by g t) past)
unfolding eligible
eligible-served g valid res t past =
    let p : g.setup.plugin ≡ plugins.PRes = p_res-is g.setup.plugin res in
    rw (awaits-none g (no_sems g valid p) t past, served-is g g.setup.plugin p t past, admitted-is g g.setup.plugin p t past, and_true)
    (by_case (nat_lt 0 (left g (served_by g t) past)) (ready g t past) (front g (served_by g t) past) refl (front-ready g (served_by g t) t past))
  where
    by_front : (b c : Bool) → (c ≡ true → b ≡ true) → b && c ≡ c
    by_front true c h = refl
    by_front false true h = h refl
    by_front false false h = refl

    by_case : (a b : Bool) (o : Option ℕ) → ready g t past ≡ b → (is t o ≡ true → ready g t past ≡ true) → b && (a && is t o) ≡ is t (cond a o None)
    by_case true b o e h = by_front b (is t o) (λ k. sym e ∙ h k)
    by_case false true o e h = refl
    by_case false false o e h = refl

pub eligible_is_served : EligibleIsServed
eligible_is_served g past valid made res t = eligible-served g valid res t past

two : (a b : Option ℕ) → length (tasks_in (a ∷ b ∷ [])) ≤ 2
two None None = omega arith
two None (Some y) = omega arith
two (Some x) None = omega arith
two (Some x) (Some y) = omega arith

pub same-is : (a b : Option ℕ) → same a b ≡ true → a ≡ b
same-is None None h = refl
same-is None (Some y) h = cc
same-is (Some x) b h = sym (is-some x b h)

pub at_most_two_change : AtMostTwoChange
at_most_two_change g valid res r past past' = (few (same (serves g r past) (serves g r past')), λ t of_it h. rw (eligible-served g valid res t past, eligible-served g valid res t past', of_it) (by_case t (same (serves g r past) (serves g r past')) refl h))
  where
    few : (b : Bool) → length (cond b [] (tasks_in (serves g r past ∷ serves g r past' ∷ []))) ≤ 2
    few true = omega arith
    few false = two (serves g r past) (serves g r past')

    by_case : (t : ℕ) (b : Bool) → same (serves g r past) (serves g r past') ≡ b → has t (cond b [] (tasks_in (serves g r past ∷ serves g r past' ∷ []))) ≡ false → is t (serves g r past') ≡ is t (serves g r past)
    by_case t true e h = ap (is t) (sym (same-is (serves g r past) (serves g r past') e))
    by_case t false e h =
        let p = neither (is t (serves g r past)) _ (rw (has-tasks_in t (serves g r past) (serves g r past' ∷ [])) at h) in
        let q = neither (is t (serves g r past')) _ (rw (has-tasks_in t (serves g r past') []) at p.1) in
        q.0 ∙ sym p.0

-- ---- keys

boost-none : (g : Group) → sems g ≡ [] → (t : ℕ) (past : Past) → boost g t past ≡ None
unfolding boost boost_of
boost-none g none t past = rw (holds-none g none t past)

waits-for-none : (g : Group) → sems g ≡ [] → (t : ℕ) (past : Past) → waits_for g t past ≡ None
unfolding waits_for next_at
waits-for-none g none t past = rw (awaits-none g none t past)

no_followers : (next : ℕ → Option ℕ) → ((u : ℕ) → next u ≡ None) → (all us : List ℕ) (t : ℕ) → filter (λ u. has t (walk next (length all) (next u))) us ≡ []
no_followers next none all [] t = refl
no_followers next none all (u ∷ us) t = rw (none u) (by_length (length all) (no_followers next none all us t))
  where
    by_length : (n : ℕ) → filter (λ v. has t (walk next (length all) (next v))) us ≡ [] → cond (has t (walk next n None)) (u ∷ filter (λ v. has t (walk next (length all) (next v))) us) (filter (λ v. has t (walk next (length all) (next v))) us) ≡ []
    by_length zero h = h
    by_length (suc n) h = h

fixed : (g : Group) (p : PluginKind) → p ≡ plugins.PRes → (t : ℕ) (past : Past) → key_by g p t past ≡ key_by g p t []
unfolding key_by
fixed g p e t past = rw e

pub key-fixed : (g : Group) → IsValid g.setup → is_p_res g.setup.plugin ≡ true → (t : ℕ) (past : Past) → effective_key g t past ≡ base_key g t []
unfolding effective_key base_key
key-fixed g valid res t past =
    let p : g.setup.plugin ≡ plugins.PRes = p_res-is g.setup.plugin res in
    let none : sems g ≡ [] = no_sems g valid p in
    rw (boost-none g none t past, no_followers (λ u. waits_for g u past) (λ u. waits-for-none g none u past) (tasks g) (tasks g) t) (fixed g g.setup.plugin p t past)

pub keys_are_fixed : KeysAreFixed
keys_are_fixed g past valid made res t = key-fixed g valid res t past
