-- Releases that stand as keys in a heap.
use Rattle.std.proofs.Common.{◌≡◌, ℕ, zero, suc, ◌+◌, true, false, cond, List, [], ◌∷◌, get_or, refl, ap, ◌∙◌, arith}
use Rattle.std.specs.Prelude.{Option, None, Some, is_some, replicate, count_by}
use Rattle.std.proofs.lemmas.List.Sums.{sum_by-cons}
use Rattle.rt_rules.specs.declared.Key.{Key}
use Rattle.rt_rules.specs.KeyOrder.{higher}
use Rattle.ready_heap.specs.Ready.{IsFirst}
use Rattle.ready_heap.proofs.MajorLaws.{first_lowest, first_smallest, major_at, major_of}
use Rattle.resv_core.specs.Releases.{releases_in, AreReleases}
use Rattle.resv_core.specs.Served.{has_ready, IsFront}

get_or-replicate : (n t : ℕ) → get_or (replicate {A = Option Key} n None) t None ≡ None
get_or-replicate zero t = refl
get_or-replicate (suc n) zero = refl
get_or-replicate (suc n) (suc t) = get_or-replicate n t

pub releases-empty : (n : ℕ) → AreReleases (replicate n None)
releases-empty n t k h = let none = get_or-replicate n t in cc

-- where nothing is counted, nobody is ready
pub none_ready : (keys : List (Option Key)) → count_by is_some keys ≡ 0 → has_ready (releases_in keys) ≡ false
none_ready [] e = refl
none_ready (None ∷ ks) e = none_ready ks e
none_ready (Some k ∷ ks) e = let more : count_by is_some (Some k ∷ ks) ≡ 1 + count_by is_some ks = sum_by-cons (λ (o : Option Key). cond (is_some o) 1 0) (Some k) ks in absurd (omega (arith, more, e))

-- a key that is in is of a ready client
some_ready : (keys : List (Option Key)) (t : ℕ) (k : Key) → get_or keys t None ≡ Some k → has_ready (releases_in keys) ≡ true
some_ready [] t k h = cc
some_ready (Some j ∷ ks) t k h = refl
some_ready (None ∷ ks) zero k h = cc
some_ready (None ∷ ks) (suc t) k h = some_ready ks t k h

module _ (keys : List (Option Key)) (task : ℕ) (first : IsFirst higher keys task) where
  pub first_is_ready : has_ready (releases_in keys) ≡ true
  first_is_ready = some_ready keys task first.key first.is_in

  pub first-front : AreReleases keys → IsFront (releases_in keys) task
  first-front are = record {
    release = first.key.major;
    is_ready = major_at keys task ∙ ap major_of first.is_in;
    earliest = first_smallest 0 keys are task first;
    lowest = first_lowest 0 keys are task first;
  }
