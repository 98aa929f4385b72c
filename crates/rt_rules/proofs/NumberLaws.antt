-- Numbers in a row.
use Rattle.std.proofs.Common.{Bool, arith, eqb-true, false, inl, inr, length, refl, suc, true, zero, ℕ, ◌+◌, ◌<◌, ◌||◌, ◌≡◌, ◌≤◌, ◌⊎◌}
use Rattle.std.proofs.lemmas.Bool.Decides.{nat_tests}
use Rattle.std.specs.Prelude.{◌==◌}
use Rattle.rt_rules.specs.Distinct.{IsDistinct}
use Rattle.rt_rules.specs.Numbers.{has, numbers_from}
use Rattle.rt_rules.proofs.BoolLaws.{either, unless}

pub has-numbers_from : (t a n : ℕ) → has t (numbers_from a n) ≡ true → a ≤ t
has-numbers_from t a zero h = cc
has-numbers_from t a (suc n) h = join (either (t == a) _ h) (has-numbers_from t (suc a) n)
  where
    join : (t == a ≡ true) ⊎ (has t (numbers_from (suc a) n) ≡ true) → (has t (numbers_from (suc a) n) ≡ true → suc a ≤ t) → a ≤ t
    join (inl k) rest = let e : t ≡ a = eqb-true t a k in omega arith
    join (inr k) rest = omega (arith, rest k)

pub distinct-numbers_from : (a n : ℕ) → IsDistinct (numbers_from a n)
distinct-numbers_from a zero = tt
distinct-numbers_from a (suc n) = (unless (has a (numbers_from (suc a) n)) (λ h. let k : suc a ≤ a = has-numbers_from a (suc a) n h in omega arith), distinct-numbers_from (suc a) n)

pub numbers_from-has : (a n q : ℕ) → a ≤ q → q < a + n → has q (numbers_from a n) ≡ true
numbers_from-has a zero q h k = absurd (omega arith)
numbers_from-has a (suc n) q h k = by_case (q == a) refl (numbers_from-has (suc a) n q)
  where
    by_case : (b : Bool) → q == a ≡ b → (suc a ≤ q → q < suc a + n → has q (numbers_from (suc a) n) ≡ true) → b || has q (numbers_from (suc a) n) ≡ true
    by_case true e r = refl
    by_case false e r = r (grind (arith, nat_tests, e)) (omega arith)

pub numbers_from-below : (t a n : ℕ) → has t (numbers_from a n) ≡ true → t < a + n
numbers_from-below t a zero h = cc
numbers_from-below t a (suc n) h = join (either (t == a) _ h) (numbers_from-below t (suc a) n)
  where
    join : (t == a ≡ true) ⊎ (has t (numbers_from (suc a) n) ≡ true) → (has t (numbers_from (suc a) n) ≡ true → t < suc a + n) → t < a + suc n
    join (inl k) rest = let e : t ≡ a = eqb-true t a k in omega arith
    join (inr k) rest = omega (arith, rest k)

pub length-numbers_from : (a n : ℕ) → length (numbers_from a n) ≡ n
length-numbers_from a zero = refl
length-numbers_from a (suc n) = omega (arith, length-numbers_from (suc a) n)
