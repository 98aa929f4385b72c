-- How often a number stands in a list.
use Rattle.std.proofs.Common.{◌≡◌, ℕ, ◌+◌, Bool, true, false, ◌||◌, cond, eqb-true, List, [], ◌∷◌, ◌++◌, refl, sym, ap, ◌∙◌, arith}
use Rattle.std.specs.Prelude.{◌==◌, nat_lt, sum_by, if◌then◌else◌}
use Rattle.std.specs.List.Sorted.{IsPermutation}
use Rattle.std.proofs.lemmas.Bool.Decides.{nat_tests}
use Rattle.std.proofs.lemmas.List.Sorted.{sum_by-IsPermutation}
use Rattle.std.proofs.lemmas.List.Sums.{sum_by-cons}
use Rattle.rt_rules.specs.Numbers.{has, without}
use Rattle.key_queue.specs.Queue.{copies}

abbrev pub one_if : ℕ → ℕ → ℕ
one_if t x = if t == x then 1 else 0

pub copies-sum : (t : ℕ) (xs : List ℕ) → copies t xs ≡ sum_by (one_if t) xs
copies-sum t [] = refl
copies-sum t (x ∷ xs) = omega (arith, copies-sum t xs, sum_by-cons (one_if t) x xs)

pub copies-permutation : (t : ℕ) (xs ys : List ℕ) → IsPermutation xs ys → copies t ys ≡ copies t xs
copies-permutation t xs ys p = copies-sum t ys ∙ sum_by-IsPermutation (one_if t) xs ys p ∙ sym (copies-sum t xs)

pub has-copies : (t : ℕ) (xs : List ℕ) → has t xs ≡ nat_lt 0 (copies t xs)
has-copies t [] = refl
has-copies t (x ∷ xs) = by_case (t == x) (has-copies t xs)
  where
    by_case : (b : Bool) → has t xs ≡ nat_lt 0 (copies t xs) → b || has t xs ≡ nat_lt 0 (cond b 1 0 + copies t xs)
    by_case true h = grind (arith, nat_tests)
    by_case false h = grind (arith, nat_tests, h)

-- as often there, there as well
pub has-same : (t : ℕ) (xs ys : List ℕ) → copies t xs ≡ copies t ys → has t xs ≡ has t ys
has-same t xs ys e = has-copies t xs ∙ ap (λ n. nat_lt 0 n) e ∙ sym (has-copies t ys)

pub copies-push : (t y : ℕ) (xs : List ℕ) → copies t (xs ++ y ∷ []) ≡ one_if t y + copies t xs
copies-push t y [] = refl
copies-push t y (x ∷ xs) = omega (arith, copies-push t y xs)

pub copies-without : (t x : ℕ) (xs : List ℕ) → has x xs ≡ true → one_if t x + copies t (without x xs) ≡ copies t xs
copies-without t x [] h = cc
copies-without t x (y ∷ ys) h = by_case (x == y) refl h (copies-without t x ys)
  where
    by_case : (b : Bool) → x == y ≡ b → b || has x ys ≡ true → (has x ys ≡ true → one_if t x + copies t (without x ys) ≡ copies t ys) → one_if t x + copies t (if b then ys else (y ∷ without x ys)) ≡ one_if t y + copies t ys
    by_case true e k rest = let s : x ≡ y = eqb-true x y e in ap (λ n. one_if t n + copies t ys) s
    by_case false e k rest = omega (arith, rest k)
