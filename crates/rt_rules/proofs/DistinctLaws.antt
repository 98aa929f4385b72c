-- Lists in which each number stands once.
use Rattle.std.proofs.Common.{Bool, List, [], ap, arith, cond, eqb-true, false, inl, inr, length, map, refl, true, ℕ, ◌++◌, ◌<◌, ◌||◌, ◌∙◌, ◌∷◌, ◌≡◌, ◌≤◌, ◌⊎◌}
use Rattle.std.specs.Prelude.{◌==◌}
use Rattle.rt_rules.specs.Distinct.{IsDistinct}
use Rattle.rt_rules.specs.Numbers.{first, has, is, numbers_from, rest, without}
use Rattle.rt_rules.proofs.BoolLaws.{clash, neither, or_true, unless}
use Rattle.rt_rules.proofs.MemberLaws.{equal_self, has-append, has-appended, has-one, has-without, map-back}
use Rattle.rt_rules.proofs.NumberLaws.{distinct-numbers_from, length-numbers_from, numbers_from-has}
use Rattle.rt_rules.proofs.PlacingLaws.{length-beside}

-- one that is new may be appended
pub distinct-append : (u : ℕ) (xs : List ℕ) → IsDistinct xs → has u xs ≡ false → IsDistinct (xs ++ u ∷ [])
distinct-append u [] d h = (refl, tt)
distinct-append u (x ∷ xs) d h =
    let n = neither (u == x) (has u xs) h in
    (unless _ (λ k. split (has-appended x xs (u ∷ []) k) n.0), distinct-append u xs d.1 n.1)
  where
    split : (has x xs ≡ true) ⊎ (has x (u ∷ []) ≡ true) → u == x ≡ false → ⊥
    split (inl k) e = clash _ k d.0
    split (inr k) e = let same : x ≡ u = has-one x u k in let m : u == u ≡ false = rw same at e in clash _ (equal_self u) m

-- two lists with no number in common may be joined
pub distinct-joined : (xs ys : List ℕ) → IsDistinct xs → IsDistinct ys → ((x : ℕ) → has x xs ≡ true → has x ys ≡ false) → IsDistinct (xs ++ ys)
distinct-joined [] ys d e apart = e
distinct-joined (x ∷ xs) ys d e apart = (has-append x xs ys ∙ rw (d.0, apart x (rw (equal_self x))), distinct-joined xs ys d.1 e (λ z h. apart z (ap (λ b. z == x || b) h ∙ or_true (z == x))))

-- one may be taken out
pub distinct-without : (u : ℕ) (xs : List ℕ) → IsDistinct xs → IsDistinct (without u xs)
distinct-without u [] d = tt
distinct-without u (x ∷ xs) d = by_case (u == x) (distinct-without u xs d.1)
  where
    by_case : (b : Bool) → IsDistinct (without u xs) → IsDistinct (cond b xs (x ∷ without u xs))
    by_case true r = d.1
    by_case false r = (unless _ (λ k. clash _ (has-without x u xs k) d.0), r)

-- a list whose members are all of another is no longer
pub length-distinct : (us ts : List ℕ) → IsDistinct us → IsDistinct ts → ((t : ℕ) → has t us ≡ true → has t ts ≡ true) → length us ≤ length ts
length-distinct us ts du dt inside = omega (arith, length-beside us ts du dt inside)

-- different numbers below n are at most n
pub length-few : (n : ℕ) (ts : List ℕ) → IsDistinct ts → ((t : ℕ) → has t ts ≡ true → t < n) → length ts ≤ n
length-few n ts d below =
    let all = length-distinct ts (numbers_from 0 n) d (distinct-numbers_from 0 n) (λ t h. numbers_from-has 0 n t (omega arith) (omega (arith, below t h))) in
    omega (arith, all, length-numbers_from 0 n)

-- the first may be left out
pub distinct-rest : (xs : List ℕ) → IsDistinct xs → IsDistinct (rest xs)
distinct-rest [] d = tt
distinct-rest (x ∷ xs) d = d.1

-- what is taken out is gone
pub without-gone : (u : ℕ) (xs : List ℕ) → IsDistinct xs → has u (without u xs) ≡ false
without-gone u [] d = refl
without-gone u (x ∷ xs) d = by_case (u == x) refl (without-gone u xs d.1)
  where
    by_case : (b : Bool) → u == x ≡ b → has u (without u xs) ≡ false → has u (cond b xs (x ∷ without u xs)) ≡ false
    by_case true e r = rw (eqb-true u x e) d.0
    by_case false e r = rw (e, r)

-- the first stands once
pub first-absent : (t : ℕ) (xs : List ℕ) → IsDistinct xs → is t (first xs) ≡ true → has t (rest xs) ≡ false
first-absent t [] d h = refl
first-absent t (x ∷ xs) d h = rw (eqb-true t x h) d.0

-- different members with different images
pub distinct-map : (f : ℕ → ℕ) (xs : List ℕ) → IsDistinct xs → ((x y : ℕ) → has x xs ≡ true → has y xs ≡ true → f x ≡ f y → x ≡ y) → IsDistinct (map f xs)
distinct-map f [] d inj = tt
distinct-map f (x ∷ xs) d inj = (unless _ (λ h. met (map-back f xs (f x) h)), distinct-map f xs d.1 (λ y z h k. inj y z (rw h (or_true (y == x))) (rw k (or_true (z == x)))))
  where
    met : (y : ℕ) × (has y xs ≡ true) × (f x ≡ f y) → ⊥
    met q = let same : x ≡ q.0 = inj x q.0 (rw (equal_self x)) (rw q.1 (or_true (q.0 == x))) q.2 in let m : has x xs ≡ true = rw same q.1 in clash _ m d.0
