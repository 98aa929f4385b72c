-- The smallest of a list that grows at its end.
use Rattle.std.proofs.Common.{Bool, List, [], ap, arith, eqb-true, false, inl, inr, leb-true, min, refl, subst, sym, true, ℕ, ◌++◌, ◌∙◌, ◌∷◌, ◌≡◌, ◌≤◌, ◌⊎◌, ◌||◌}
use Rattle.std.proofs.lemmas.Bool.Decides.{nat_tests}
use Rattle.std.specs.Prelude.{None, Option, Some, nat_lt, ◌==◌}
use Rattle.rt_rules.specs.Numbers.{foremost, has}
use Rattle.rt_rules.proofs.BoolLaws.{either, or_true}
use Rattle.rt_rules.proofs.KeyLaws.{IsOrder, foremost-is, foremost-none, foremost-some}
use Rattle.rt_rules.proofs.MemberLaws.{equal_self, has-push}
use Rattle.mpcp_ceilings.specs.inside.Noting.{lowered}

by_number : IsOrder nat_lt
by_number = record {
  trans = λ x y z h k. grind (arith, nat_tests, h, k);
  total = λ x y h k. grind (arith, nat_tests, h, k);
}

strict : (y z : ℕ) → nat_lt y z ≡ true → nat_lt z y ≡ false
strict y z h = grind (arith, nat_tests, h)

-- the smaller of the last and of the smallest before it
smallest-of-two : (xs : List ℕ) (p q : ℕ) → has q xs ≡ true → ((y : ℕ) → has y xs ≡ true → q == y || nat_lt q y ≡ true) → foremost nat_lt (xs ++ p ∷ []) ≡ Some (min p q)
smallest-of-two xs p q there ahead = by_case (nat_lt p q) refl
  where
    passes : (m : ℕ) → (m == p || nat_lt m p ≡ true) → (m == q || nat_lt m q ≡ true) → (y : ℕ) → has y (xs ++ p ∷ []) ≡ true → m == y || nat_lt m y ≡ true
    passes m below_p below_q y h = split (either (y == p) (has y xs) (sym (has-push y p xs) ∙ h))
      where
        split : (y == p ≡ true) ⊎ (has y xs ≡ true) → m == y || nat_lt m y ≡ true
        split (inl e) = let s : y ≡ p = eqb-true y p e in subst (λ n. m == n || nat_lt m n ≡ true) (sym s) below_p
        split (inr k) = let a = ahead y k in grind (arith, nat_tests, below_q, a)

    by_case : (b : Bool) → nat_lt p q ≡ b → foremost nat_lt (xs ++ p ∷ []) ≡ Some (min p q)
    by_case true e =
        let is : min p q ≡ p = grind (arith, nat_tests, e) in
        rw is (foremost-is nat_lt (xs ++ p ∷ []) p strict (has-push p p xs ∙ (let s = equal_self p in rw s refl)) (passes p (let s = equal_self p in rw s refl) (grind (arith, nat_tests, e))))
    by_case false e =
        let is : min p q ≡ q = grind (arith, nat_tests, e) in
        rw is (foremost-is nat_lt (xs ++ p ∷ []) q strict (has-push q p xs ∙ (rw there (or_true (q == p)))) (passes q (grind (arith, nat_tests, e)) (let s = equal_self q in rw s refl)))

pub foremost-push : (xs : List ℕ) (p : ℕ) → foremost nat_lt (xs ++ p ∷ []) ≡ Some (lowered p (foremost nat_lt xs))
foremost-push xs p = by_case (foremost nat_lt xs) refl
  where
    by_case : (o : Option ℕ) → foremost nat_lt xs ≡ o → foremost nat_lt (xs ++ p ∷ []) ≡ Some (lowered p o)
    by_case None h =
        let none : xs ≡ [] = foremost-none nat_lt by_number xs h in
        let self = equal_self p in
        subst (λ ys. foremost nat_lt (ys ++ p ∷ []) ≡ Some p) (sym none) (rw self refl)
    by_case (Some q) h = let f = foremost-some nat_lt xs q h in smallest-of-two xs p q f.0 f.1
