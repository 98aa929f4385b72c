-- Effective keys with no walks.
use Rattle.std.proofs.Common.{Bool, List, [], ap, false, length, refl, true, ℕ, ◌||◌, ◌∙◌, ◌∷◌, ◌≡◌}
use Rattle.std.specs.Prelude.{None, Option, Some, filter, ◌==◌}
use Rattle.rt_rules.specs.Numbers.{first, has, is, is_empty}
use Rattle.rt_rules.specs.Walks.{followers, inherited, walk}
use Rattle.rt_model.specs.BaseKeys.{base_key}
use Rattle.rt_model.specs.Boosts.{boost, boost_of}
use Rattle.rt_model.specs.EffectiveKeys.{effective_key, waits_for}
use Rattle.rt_model.specs.Group.{Group, tasks}
use Rattle.rt_model.specs.Holders.{awaits, holds}
use Rattle.rt_model.specs.Reachable.{IsReachable}
use Rattle.rt_model.specs.Past.{Past}
use Rattle.rt_rules.proofs.BoolLaws.{clash, unless}
use Rattle.rt_rules.proofs.MemberLaws.{is-some}
use Rattle.rt_laws.proofs.pcp.PcpWalks.{walk-none, walk-step, walk-stops}
use Rattle.rt_laws.proofs.Rules.{MeetsRules}
use Rattle.rt_laws.proofs.ValidSets.{rules_of}
use Rattle.rt_laws.proofs.semaphores.Waiting.{awaits-waits}
use Rattle.rt_changes.specs.KeysOfWaiters.{HoldsNothingHasBase, KeyIsOfWaiters, WaitsForOwner, waiters}
use Rattle.rt_changes.specs.Owners.{owner}
use Rattle.rt_changes.proofs.Lists.{filter-same}
use Rattle.rt_changes.proofs.Owning.{owner-holds, waits-owner}

pub waits_for_owner : WaitsForOwner
waits_for_owner g past valid made t s a = waits-owner g (rules_of g valid) past made t s a

-- the tasks from which a walk leads to a task are those that wait for it
pub followers-waiters : (g : Group) → MeetsRules g → (t : ℕ) (past : Past) → IsReachable g past → followers (λ u. waits_for g u past) (tasks g) t ≡ waiters g t past
followers-waiters g rules t past made = filter-same _ _ (tasks g) (λ u there. by_wait u there (awaits g u past) refl)
  where
    next : ℕ → Option ℕ
    next u = waits_for g u past

    or_none : (b : Bool) → b || false ≡ b
    or_none true = refl
    or_none false = refl

    one_step : (ts : List ℕ) (u v : ℕ) → has u ts ≡ true → awaits g v past ≡ None → has t (walk next (length ts) (Some v)) ≡ is t (Some v)
    one_step [] u v m f = cc
    one_step (x ∷ xs) u v m f = rw (walk-stops g rules past made v f, walk-none next (length xs)) (or_none (t == v))

    by_wait : (u : ℕ) → has u (tasks g) ≡ true → (o : Option ℕ) → awaits g u past ≡ o → has t (walk next (length (tasks g)) (next u)) ≡ is t (next u)
    by_wait u there None e = rw (walk-stops g rules past made u e, walk-none next (length (tasks g)))
    by_wait u there (Some s) e = let q = walk-step g rules past made u s e in rw q.1 (one_step (tasks g) u q.0 there q.2)

pub key_is_of_waiters : KeyIsOfWaiters
unfolding effective_key
key_is_of_waiters g past valid made t = ap (λ us. inherited (boost g t past) (λ u. base_key g u past) us t) (followers-waiters g (rules_of g valid) t past made)

-- who holds nothing is not boosted, and nobody waits for it
unboosted : (g : Group) (t : ℕ) (past : Past) → is_empty (holds g t past) ≡ true → boost g t past ≡ None
unfolding boost boost_of
unboosted g t past = by_held (holds g t past)
  where
    by_held : (xs : List ℕ) → is_empty xs ≡ true → boost_of g t (first xs) past ≡ None
    by_held [] h = refl
    by_held (x ∷ xs) h = cc

nobody : (p : ℕ → Bool) (xs : List ℕ) → ((x : ℕ) → p x ≡ false) → filter p xs ≡ []
nobody p [] h = refl
nobody p (x ∷ xs) h = rw (h x) (nobody p xs h)

no_waiters : (g : Group) → MeetsRules g → (t : ℕ) (past : Past) → IsReachable g past → is_empty (holds g t past) ≡ true → waiters g t past ≡ []
no_waiters g rules t past made h = nobody (λ u. is t (waits_for g u past)) (tasks g) (λ u. unless _ (λ m. by_wait u m (awaits g u past) refl))
  where
    by_wait : (u : ℕ) → is t (waits_for g u past) ≡ true → (o : Option ℕ) → awaits g u past ≡ o → ⊥
    by_wait u m None e = let z : is t None ≡ true = rw (walk-stops g rules past made u e) at m in cc
    by_wait u m (Some s) e =
        let owns : owner g s past ≡ Some t = is-some t (owner g s past) (rw (waits-owner g rules past made u s e) at m) in
        clash _ h (owner-holds g rules past made s t (awaits-waits g u s past e).0 owns)

pub holds_nothing_has_base : HoldsNothingHasBase
holds_nothing_has_base g past valid made t h = key_is_of_waiters g past valid made t ∙ rw (unboosted g t past h, no_waiters g (rules_of g valid) t past made h)
