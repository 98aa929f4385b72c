-- Numbers that follow each other.
use Rattle.std.proofs.Common.{◌≡◌, ◌∙◌, ℕ, suc, ◌+◌, ◌-◌, ◌<◌, List, [], ◌∷◌, ◌++◌, sym, ap, arith, append_assoc}
use Rattle.std.specs.Prelude.{flat_map}
use Rattle.rt_rules.specs.Numbers.{numbers_from}

pub numbers-next : (i n : ℕ) → i < n → numbers_from i (n - i) ≡ i ∷ numbers_from (i + 1) (n - (i + 1))
numbers-next i n h =
    let number : n - i ≡ suc (n - (i + 1)) = omega (arith, h) in
    let next : suc i ≡ i + 1 = omega arith in
    ap (λ m. numbers_from i m) number ∙ ap (λ k. i ∷ numbers_from k (n - (i + 1))) next

pub numbers-none : (i n : ℕ) → n < i + 1 → numbers_from i (n - i) ≡ []
numbers-none i n h =
    let none : n - i ≡ 0 = omega (arith, h) in
    ap (λ m. numbers_from i m) none

-- what is written for a number, and then for those behind it
pub number-written : (text : ℕ → List ℕ) (i n : ℕ) (out new all : List ℕ) → i < n → new ≡ out ++ text i → out ++ flat_map text (numbers_from i (n - i)) ≡ all → new ++ flat_map text (numbers_from (i + 1) (n - (i + 1))) ≡ all
number-written text i n out new all h written so_far =
    let rest = flat_map text (numbers_from (i + 1) (n - (i + 1))) in
    let next : flat_map text (numbers_from i (n - i)) ≡ text i ++ rest = ap (λ ks. flat_map text ks) (numbers-next i n h) in
    ap (λ z. z ++ rest) written ∙ append_assoc out (text i) rest ∙ ap (λ z. out ++ z) (sym next) ∙ so_far
