-- The majors of keys, at each task's number, and the first task where the keys differ by these alone.
use Rattle.std.proofs.Common.{◌≡◌, ℕ, zero, suc, ◌≤◌, false, List, [], ◌∷◌, map, get_or, refl, sym, ap, ◌∙◌, arith}
use Rattle.std.specs.Prelude.{Option, None, Some, option_map, replicate}
use Rattle.std.proofs.lemmas.Bool.Decides.{nat_tests}
use Rattle.std.proofs.lemmas.Option.{same_Some}
use Rattle.rt_rules.specs.declared.Key.{Key}
use Rattle.rt_rules.specs.KeyOrder.{higher}
use Rattle.ready_heap.specs.Heap.{goes_ahead}
use Rattle.ready_heap.specs.Ready.{IsFirst}

abbrev pub major_of : Option Key → Option ℕ
major_of o = option_map (λ (k : Key). k.major) o

abbrev pub majors_in : List (Option Key) → List (Option ℕ)
majors_in keys = map major_of keys

pub major_at : (keys : List (Option Key)) (t : ℕ) → get_or (majors_in keys) t None ≡ major_of (get_or keys t None)
major_at [] t = refl
major_at (k ∷ ks) zero = refl
major_at (k ∷ ks) (suc t) = major_at ks t

pub majors_in-replicate : (n : ℕ) → majors_in (replicate n None) ≡ replicate n None
majors_in-replicate zero = refl
majors_in-replicate (suc n) = ap (λ ms. None ∷ ms) (majors_in-replicate n)

-- a major is that of a key
key_for : (keys : List (Option Key)) (t major : ℕ) → get_or (majors_in keys) t None ≡ Some major → (k : Key) × (get_or keys t None ≡ Some k) × (k.major ≡ major)
key_for keys t major h = found (get_or keys t None) refl (rw (major_at keys t) at h)
  where
    found : (o : Option Key) → get_or keys t None ≡ o → major_of o ≡ Some major → (k : Key) × (get_or keys t None ≡ Some k) × (k.major ≡ major)
    found None e h = cc
    found (Some k) e h = (k, e, same_Some k.major major h)

abbrev pub key_with : ℕ → ℕ → Key
key_with band major = record { band = band; major = major; minor = 0 }

-- of two keys that do not go ahead
not_before : (band m n u t : ℕ) → goes_ahead higher (record { key = key_with band m; task = u }) (record { key = key_with band n; task = t }) ≡ false → (n ≤ m) × (m ≡ n → t ≤ u)
not_before band m n u t h = (grind (arith, nat_tests, h), λ e. grind (arith, nat_tests, h))

module _ (band : ℕ) (keys : List (Option Key)) (like : (t : ℕ) (k : Key) → get_or keys t None ≡ Some k → k ≡ key_with band k.major) (task : ℕ) (first : IsFirst higher keys task) where
  -- no other key has a smaller major, and no lower number the same one
  after : (u : ℕ) (k : Key) → get_or keys u None ≡ Some k → (first.key.major ≤ k.major) × (k.major ≡ first.key.major → task ≤ u)
  after u k h = not_before band k.major first.key.major u task
      (ap (λ j. goes_ahead higher (record { key = key_with band k.major; task = u }) (record { key = j; task = task })) (sym (like task first.key first.is_in))
      ∙ ap (λ j. goes_ahead higher (record { key = j; task = u }) (record { key = first.key; task = task })) (sym (like u k h))
      ∙ first.best u k h)

  pub first_smallest : (u major : ℕ) → get_or (majors_in keys) u None ≡ Some major → first.key.major ≤ major
  first_smallest u major h = let p = key_for keys u major h in let a = (after u p.0 p.1).0 in let m = p.2 in omega (arith, a, m)

  pub first_lowest : (u : ℕ) → get_or (majors_in keys) u None ≡ Some first.key.major → task ≤ u
  first_lowest u h = let p = key_for keys u first.key.major h in (after u p.0 p.1).1 p.2
