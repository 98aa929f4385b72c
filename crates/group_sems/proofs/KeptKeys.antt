-- The effective key of a task is read off what is kept.
use Rattle.std.proofs.Common.{◌≡◌, ◌∙◌, ◌+◌, ◌&&◌, ◌||◌, ℕ, suc, Bool, true, false, List, length, refl, sym, ap, subst, arith, add-one}
use Rattle.std.specs.Prelude.{◌==◌, Option, None, Some, unwrap_or}
use Rattle.rt_rules.specs.KeyOrder.{lowest_key}
use Rattle.rt_rules.specs.declared.Key.{Key}
use Rattle.rt_task.specs.Validity.{IsValid}
use Rattle.rt_rules.specs.Numbers.{has, is, numbers_from}
use Rattle.rt_rules.specs.Walks.{followers, inherited, walk}
use Rattle.rt_rules.proofs.BoolLaws.{and_false, both}
use Rattle.rt_rules.proofs.MemberLaws.{has-filter}
use Rattle.rt_rules.proofs.NumberLaws.{length-numbers_from, numbers_from-has}
use Rattle.rt_model.specs.BaseKeys.{base_key}
use Rattle.rt_model.specs.Boosts.{boost}
use Rattle.rt_model.specs.EffectiveKeys.{effective_key, waits_for}
use Rattle.rt_model.specs.Group.{Group, tasks}
use Rattle.rt_model.specs.Holders.{awaits}
use Rattle.rt_model.specs.Past.{Past}
use Rattle.rt_model.specs.Reachable.{IsReachable}
use Rattle.rt_laws.proofs.pcp.PcpWalks.{walk-none, walk-step, walk-stops}
use Rattle.rt_laws.proofs.Rules.{MeetsRules}
use Rattle.rt_laws.proofs.ValidSets.{rules_of}
use Rattle.rt_changes.specs.KeysOfWaiters.{waiters}
use Rattle.rt_changes.proofs.Highest.{highest-members}
use Rattle.rt_changes.proofs.KeysOfWaiters.{key_is_of_waiters}
use Rattle.rt_changes.proofs.Lists.{inherited-same}
use Rattle.prio_inherit.specs.Waits as kept_keys
use Rattle.prio_inherit.specs.Waits.{Waits, base_of, boost_of, next_of}
use Rattle.group_sems.specs.Telling.{AreShallow}
use Rattle.group_sems.specs.Kept.{KeepsNexts, KeepsWaits}
use Rattle.group_sems.specs.Reading.{KeyIsRead}
use Rattle.group_sems.proofs.Bases.{task-position}

-- whoever is waited for waits for nothing
pub kept-shallow : (g : Group) → MeetsRules g → (past : Past) → IsReachable g past → (nexts : List (Option ℕ)) → KeepsNexts g past nexts → AreShallow nexts
kept-shallow g rules past made nexts k t v h = by_task (has t (tasks g)) refl
  where
    stops : awaits g v past ≡ None → (b : Bool) → has v (tasks g) ≡ b → next_of nexts v ≡ None
    stops none true there = k.are v there ∙ walk-stops g rules past made v none
    stops none false away = k.others v away

    by_wait : has t (tasks g) ≡ true → (o : Option ℕ) → awaits g t past ≡ o → next_of nexts v ≡ None
    by_wait there None e =
        let n : next_of nexts t ≡ None = k.are t there ∙ walk-stops g rules past made t e in
        cc
    by_wait there (Some s) e =
        let q = walk-step g rules past made t s e in
        let n : next_of nexts t ≡ Some q.0 = k.are t there ∙ q.1 in
        let same : q.0 ≡ v = cc in
        stops (subst (λ x. awaits g x past ≡ None) same q.2) (has v (tasks g)) refl

    by_task : (b : Bool) → has t (tasks g) ≡ b → next_of nexts v ≡ None
    by_task true there = by_wait there (awaits g t past) refl
    by_task false away = let n : next_of nexts t ≡ None = k.others t away in cc

-- where whoever is waited for waits for nothing, a walk has one step
one-step : (nexts : List (Option ℕ)) → AreShallow nexts → (n t u : ℕ) → has t (walk (next_of nexts) (suc n) (next_of nexts u)) ≡ is t (next_of nexts u)
one-step nexts shallow n t u = by_next (next_of nexts u) refl
  where
    or_none : (b : Bool) → b || false ≡ b
    or_none true = refl
    or_none false = refl

    by_next : (o : Option ℕ) → next_of nexts u ≡ o → has t (walk (next_of nexts) (suc n) o) ≡ is t o
    by_next None e = refl
    by_next (Some v) e = rw (shallow u v e, walk-none (next_of nexts) n) (or_none (t == v))

module _ (g : Group) (rules : MeetsRules g) (past : Past) (made : IsReachable g past) (w : Waits) (k : KeepsWaits g past w) (t : ℕ) where
  shallow : AreShallow w.nexts
  shallow = kept-shallow g rules past made w.nexts k.nexts_are

  walks-once : (u n : ℕ) → n ≡ length g.setup.tasks + 1 → has t (walk (next_of w.nexts) n (next_of w.nexts u)) ≡ is t (next_of w.nexts u)
  walks-once u n h = subst (λ (m : ℕ). has t (walk (next_of w.nexts) m (next_of w.nexts u)) ≡ is t (next_of w.nexts u)) (sym (h ∙ add-one (length g.setup.tasks))) (one-step w.nexts shallow (length g.setup.tasks) t u)

  position : (u : ℕ) → has u (tasks g) ≡ true → has u (numbers_from 0 (length w.bases)) ≡ true
  position u there = let b = task-position g u there in let r : length w.bases ≡ length g.setup.tasks + 1 = k.bases_are.room in numbers_from-has 0 (length w.bases) u (omega arith) (omega (arith, b, r))

  same-followers : (u : ℕ) → has u (followers (next_of w.nexts) (numbers_from 0 (length w.bases)) t) ≡ has u (waiters g t past)
  same-followers u = kept-side ∙ by_task (has u (tasks g)) refl ∙ sym (has-filter (λ x. is t (waits_for g x past)) u (tasks g))
    where
      count : length (numbers_from 0 (length w.bases)) ≡ length g.setup.tasks + 1
      count = length-numbers_from 0 (length w.bases) ∙ k.bases_are.room

      kept-side : has u (followers (next_of w.nexts) (numbers_from 0 (length w.bases)) t) ≡ has u (numbers_from 0 (length w.bases)) && is t (next_of w.nexts u)
      kept-side = has-filter (λ x. has t (walk (next_of w.nexts) (length (numbers_from 0 (length w.bases))) (next_of w.nexts x))) u (numbers_from 0 (length w.bases)) ∙ ap (λ (b : Bool). has u (numbers_from 0 (length w.bases)) && b) (walks-once u (length (numbers_from 0 (length w.bases))) count)

      by_task : (b : Bool) → has u (tasks g) ≡ b → has u (numbers_from 0 (length w.bases)) && is t (next_of w.nexts u) ≡ has u (tasks g) && is t (waits_for g u past)
      by_task true there = rw (there, position u there, k.nexts_are.are u there)
      by_task false away = rw (away, k.nexts_are.others u away) (and_false (has u (numbers_from 0 (length w.bases))))

  base-is : (u : ℕ) → has u (tasks g) ≡ true → base_of w.bases u ≡ base_key g u past
  base-is u there = ap (λ (o : Option Key). unwrap_or o lowest_key) (k.bases_are.are u there)

  same-inherited : (o : Option Key) (us vs : List ℕ) → ((u : ℕ) → has u us ≡ has u vs) → inherited o (base_of w.bases) us t ≡ inherited o (base_of w.bases) vs t
  same-inherited (Some x) us vs h = refl
  same-inherited None us vs h = highest-members (base_of w.bases) t us vs h

  waiter-task : (u : ℕ) → has u (waiters g t past) ≡ true → has u (tasks g) ≡ true
  waiter-task u h = (both (has u (tasks g)) _ (rw has-filter at h)).0

  key-is : IsValid g.setup → has t (tasks g) ≡ true → kept_keys.effective_key w t ≡ effective_key g t past
  key-is valid there =
      same-inherited (boost_of w.boosts t) _ (waiters g t past) same-followers
      ∙ ap (λ (o : Option Key). inherited o (base_of w.bases) (waiters g t past) t) (k.boosts_are.are t there)
      ∙ inherited-same (boost g t past) (base_of w.bases) (λ u. base_key g u past) (waiters g t past) t (base-is t there) (λ u h. base-is u (waiter-task u h))
      ∙ sym (key_is_of_waiters g past valid made t)

pub key_is_read : KeyIsRead
key_is_read g past valid made w t there k = key-is g (rules_of g valid) past made w k t valid there
