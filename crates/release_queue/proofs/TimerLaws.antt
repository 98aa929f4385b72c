-- Ticks of a heap whose keys are ticks.
use Rattle.std.proofs.Common.{◌≡◌, ◌≢◌, ℕ, zero, suc, ◌+◌, ◌<◌, ◌≤◌, cond, ◌⊎◌, inl, inr, List, [], ◌∷◌, length, get_or, set, length-set, get_or-set_same, get_or-set_other, refl, sym, ap, ◌∙◌, arith}
use Rattle.std.specs.Prelude.{Option, None, Some, is_some, count_by}
use Rattle.std.proofs.lemmas.List.Sums.{sum_by-cons}
use Rattle.std.proofs.lemmas.Bool.{cases_eq}
use Rattle.rt_rules.specs.declared.Key.{Key}
use Rattle.rt_rules.specs.KeyOrder.{higher}
use Rattle.ready_heap.specs.Ready.{IsFirst}
use Rattle.ready_heap.proofs.MajorLaws.{first_lowest, first_smallest, major_at, major_of}
use Rattle.release_queue.specs.Timers.{key_of_tick, ticks_in, IsTimed, IsNextDue, NothingDue}

-- a key is in, within the list
pub key_inside : (keys : List (Option Key)) (t : ℕ) (k : Key) → get_or keys t None ≡ Some k → t < length keys
key_inside [] t k h = cc
key_inside (k ∷ ks) zero j h = omega arith
key_inside (k ∷ ks) (suc t) j h = let rest = key_inside ks t j h in omega arith

pub timed-cancel : (keys : List (Option Key)) (ticks : List ℕ) (t : ℕ) → IsTimed keys ticks → t < length keys → IsTimed (set keys t None) ticks
timed-cancel keys ticks t timed inside = record {
  same_length = timed.same_length ∙ sym (length-set _ _ _);
  keyed = λ u k h. keyed u k h (cases_eq u t);
}
  where
    keyed : (u : ℕ) (k : Key) → get_or (set keys t None) u None ≡ Some k → (u ≡ t) ⊎ (u ≢ t) → k ≡ key_of_tick (get_or ticks u 0)
    keyed u k h (inl is) = let clash : None ≡ Some k = sym (get_or-set_same keys t None None inside) ∙ ap (λ i. get_or (set keys t None) i None) (sym is) ∙ h in cc
    keyed u k h (inr ne) = timed.keyed u k (sym (get_or-set_other keys t u None None ne) ∙ h)

-- where nothing is counted, nothing is in
none_in_empty : (keys : List (Option Key)) → count_by is_some keys ≡ 0 → (t : ℕ) → get_or keys t None ≡ None
none_in_empty [] e t = refl
none_in_empty (None ∷ ks) e zero = refl
none_in_empty (None ∷ ks) e (suc t) = none_in_empty ks e t
none_in_empty (Some k ∷ ks) e t = let more : count_by is_some (Some k ∷ ks) ≡ 1 + count_by is_some ks = sum_by-cons (λ (o : Option Key). cond (is_some o) 1 0) (Some k) ks in absurd (omega (arith, more, e))

pub empty-not_due : (keys : List (Option Key)) (now : ℕ) → count_by is_some keys ≡ 0 → NothingDue (ticks_in keys) now
empty-not_due keys now e t tick h = let clash : None ≡ Some tick = sym (major_at keys t ∙ ap major_of (none_in_empty keys e t)) ∙ h in cc

module _ (keys : List (Option Key)) (ticks : List ℕ) (timed : IsTimed keys ticks) (task : ℕ) (first : IsFirst higher keys task) where
  -- the first task is in
  pub first_inside : task < length keys
  first_inside = key_inside keys task first.key first.is_in

  -- each key is that of its tick, the first of its task's
  of_tick : (u : ℕ) (k : Key) → get_or keys u None ≡ Some k → k ≡ key_of_tick k.major
  of_tick u k h = timed.keyed u k h ∙ ap (λ (j : Key). key_of_tick j.major) (sym (timed.keyed u k h))

  tick_is : first.key.major ≡ get_or ticks task 0
  tick_is = ap (λ (j : Key). j.major) (timed.keyed task first.key first.is_in)

  pub first-due : (now : ℕ) → get_or ticks task 0 ≤ now → IsNextDue (ticks_in keys) now task
  first-due now due = record {
    tick = first.key.major;
    armed = major_at keys task ∙ ap major_of first.is_in;
    due = omega (arith, tick_is);
    earliest = first_smallest 2 keys of_tick task first;
    lowest = first_lowest 2 keys of_tick task first;
  }

  pub first-late : (now : ℕ) → now < get_or ticks task 0 → NothingDue (ticks_in keys) now
  first-late now late u tick h = let l = first_smallest 2 keys of_tick task first u tick h in omega (arith, tick_is, l)
