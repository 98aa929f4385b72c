-- Of values with distinct numbers the one with a number is changed, and all others stay.
use Rattle.std.proofs.Common.{◌≡◌, ℕ, zero, suc, ◌<◌, ◌==◌, ◌||◌, Bool, true, false, List, [], ◌∷◌, length, map, get_or, set, refl, sym, ap, subst, arith, All}
use Rattle.std.proofs.lemmas.Bool.Decides.{nat_tests}
use Rattle.rt_rules.specs.Distinct.{IsDistinct}
use Rattle.rt_rules.specs.Numbers.{has}
use Rattle.rt_rules.proofs.BoolLaws.{clash, neither}

-- where each stays all do
pub all-stay : {A : Type 0} (f : A → A) → ((x : A) → f x ≡ x) → (xs : List A) → map f xs ≡ xs
all-stay f stays [] = refl
all-stay f stays (x ∷ xs) = λ i. stays x i ∷ all-stay f stays xs i

module _ {A : Type 0} (number : A → ℕ) where
  pub absent : (n : ℕ) (xs : List A) → has n (map number xs) ≡ false → All (λ x. (number x == n) ≡ false) xs
  absent n [] h j d low = absurd (omega arith)
  absent n (x ∷ xs) h zero d low = let other = (neither (n == number x) (has n (map number xs)) h).0 in grind (arith, nat_tests)
  absent n (x ∷ xs) h (suc j) d low = absent n xs (neither (n == number x) (has n (map number xs)) h).1 j d (omega arith)

  listed-at : (n : ℕ) (xs : List A) (i : ℕ) (d : A) → i < length xs → number (get_or xs i d) ≡ n → has n (map number xs) ≡ true
  listed-at n [] i d low is = absurd (omega arith)
  listed-at n (x ∷ xs) zero d low is = let here : (n == number x) ≡ true = grind (arith, nat_tests) in rw here refl
  listed-at n (x ∷ xs) (suc i) d low is = by_case (n == number x) (listed-at n xs i d (omega arith) is)
    where
      by_case : (b : Bool) → has n (map number xs) ≡ true → (b || has n (map number xs)) ≡ true
      by_case true h = refl
      by_case false h = h

  -- a number stands in one position
  pub one-position : (xs : List A) (i p : ℕ) (d e : A) → IsDistinct (map number xs) → i < length xs → p < length xs → number (get_or xs i d) ≡ number (get_or xs p e) → i ≡ p
  one-position [] i p d e once low below same = absurd (omega arith)
  one-position (x ∷ xs) zero zero d e once low below same = refl
  one-position (x ∷ xs) zero (suc p) d e once low below same = absurd (clash _ (listed-at (number x) xs p e (omega arith) (sym same)) once.0)
  one-position (x ∷ xs) (suc i) zero d e once low below same = absurd (clash _ (listed-at (number x) xs i d (omega arith) same) once.0)
  one-position (x ∷ xs) (suc i) (suc p) d e once low below same = ap suc (one-position xs i p d e once.1 (omega arith) (omega arith) same)

  module _ (f : A → A) (n : ℕ) (stays : (x : A) → (number x == n) ≡ false → f x ≡ x) where
    pub none-changed : (xs : List A) → All (λ x. (number x == n) ≡ false) xs → map f xs ≡ xs
    none-changed [] h = refl
    none-changed (x ∷ xs) h = λ i. stays x (h 0 x (omega arith)) i ∷ none-changed xs (λ j d low. h (suc j) d (omega arith)) i

    pub one-changed : (xs : List A) (i : ℕ) (d : A) → IsDistinct (map number xs) → i < length xs → number (get_or xs i d) ≡ n → set xs i (f (get_or xs i d)) ≡ map f xs
    one-changed [] i d once low is = absurd (omega arith)
    one-changed (x ∷ xs) zero d once low is = ap (λ ys. f x ∷ ys) (sym (none-changed xs (absent n xs (subst (λ m. has m (map number xs) ≡ false) is once.0))))
    one-changed (x ∷ xs) (suc i) d once low is = λ j. sym (stays x other) j ∷ one-changed xs i d once.1 (omega arith) is j
      where
        there : (m : ℕ) → m ≡ n → has m (map number xs) ≡ true
        there m same = subst (λ u. has u (map number xs) ≡ true) (sym same) (listed-at n xs i d (omega arith) is)

        other : (number x == n) ≡ false
        other = by_case (number x == n) refl
          where
            by_case : (b : Bool) → (number x == n) ≡ b → b ≡ false
            by_case false h = refl
            by_case true h = let same : number x ≡ n = grind (arith, nat_tests) in absurd (clash _ (there (number x) same) once.0)
