-- Lists of the numbers that pass a test, one number after the other.
use Rattle.std.proofs.Common.{◌≡◌, ◌∙◌, ℕ, zero, suc, ◌+◌, Bool, true, false, List, [], ◌∷◌, ◌++◌, map, refl, sym, ap, arith, append-nil}
use Rattle.std.specs.Prelude.{filter, if◌then◌else◌}
use Rattle.std.proofs.lemmas.List.{map-append}
use Rattle.std.proofs.lemmas.List.Elements.{filter-append}
use Rattle.rt_rules.specs.Numbers.{numbers_from}

numbers-last : (a n : ℕ) → numbers_from a (n + 1) ≡ numbers_from a n ++ (a + n) ∷ []
numbers-last a zero = let at : a ≡ a + 0 = omega arith in ap (λ j. j ∷ []) at
numbers-last a (suc n) =
    let size : suc n + 1 ≡ suc (n + 1) = omega arith in
    let at : suc a + n ≡ a + suc n = omega arith in
    ap (λ m. numbers_from a m) size ∙ ap (λ xs. a ∷ xs) (numbers-last (suc a) n) ∙ ap (λ j. a ∷ (numbers_from (suc a) n ++ j ∷ [])) at

-- the next number passes, or does not
passing : (a : ℕ) (test : ℕ → Bool) (i : ℕ) (b : Bool) → test (a + i) ≡ b → filter test (numbers_from a (i + 1)) ≡ filter test (numbers_from a i) ++ (if b then (a + i) ∷ [] else [])
passing a test i b is =
    ap (filter test) (numbers-last a i) ∙ filter-append test (numbers_from a i) ((a + i) ∷ []) ∙ ap (λ ys. filter test (numbers_from a i) ++ ys) (last b is)
  where
    last : (c : Bool) → test (a + i) ≡ c → filter test ((a + i) ∷ []) ≡ (if c then (a + i) ∷ [] else [])
    last true m = rw m refl
    last false m = rw m refl

-- what has its number stands behind the others, where it passes
pub one-more : {A B : Type 0} (a : ℕ) (shown : A → B) (row : ℕ → B) (test : ℕ → Bool) (i : ℕ) (x : A) (old new : List A) → shown x ≡ row (a + i) → test (a + i) ≡ true → new ≡ old ++ x ∷ []
    → map shown old ≡ map row (filter test (numbers_from a i)) → map shown new ≡ map row (filter test (numbers_from a (i + 1)))
one-more a shown row test i x old new is passes put so_far =
    ap (map shown) put ∙ map-append shown old (x ∷ []) ∙ ap (λ xs. xs ++ shown x ∷ []) so_far ∙ ap (λ y. map row (filter test (numbers_from a i)) ++ y ∷ []) is
    ∙ sym (map-append row (filter test (numbers_from a i)) ((a + i) ∷ [])) ∙ ap (map row) (sym (passing a test i true passes))

pub none-more : {A B : Type 0} (a : ℕ) (shown : A → B) (row : ℕ → B) (test : ℕ → Bool) (i : ℕ) (old new : List A) → test (a + i) ≡ false → new ≡ old
    → map shown old ≡ map row (filter test (numbers_from a i)) → map shown new ≡ map row (filter test (numbers_from a (i + 1)))
none-more a shown row test i old new passes put so_far =
    ap (map shown) put ∙ so_far ∙ ap (map row) (sym (append-nil (filter test (numbers_from a i)))) ∙ ap (map row) (sym (passing a test i false passes))

pub map-self : (xs : List ℕ) → map (λ n. n) xs ≡ xs
map-self [] = refl
map-self (x ∷ xs) = ap (λ ys. x ∷ ys) (map-self xs)
