-- Two lists that are related element by element.
use Rattle.std.proofs.Common.{◌≡◌, ◌≢◌, ℕ, ◌<◌, refl, Bool, true, false, List, [], ◌∷◌, ◌++◌, length, set, get_or, sym, ◌∙◌, subst, arith, length-append}
use Rattle.std.specs.Prelude.{◌==◌, All}
use Rattle.std.proofs.lemmas.Bool.Decides.{nat_tests}
use Rattle.std.proofs.lemmas.List.{get_or_append_left, get_or_default, get_or-set_other, get_or-set_same, length-set}
use Rattle.std.proofs.Math.Seq.{get_or-append_seam}
use Rattle.set_runs.specs.Lists.{AreEach}

-- a list with a position has an element
pub some-of : {A : Type 0} (xs : List A) (i : ℕ) → i < length xs → A
some-of [] i lt = absurd (omega (arith, lt))
some-of (x ∷ xs) i lt = x

module _ {A B : Type 0} (R : A → B → Type 0) where
  pub each-none : AreEach R [] []
  each-none = record { all = refl; each = λ i x y lt. absurd (omega (arith, lt)) }

  -- with one element more each
  pub each-more : (xs : List A) (ys : List B) (x : A) (y : B) → AreEach R xs ys → R x y → AreEach R (xs ++ x ∷ []) (ys ++ y ∷ [])
  each-more xs ys x y are last = record {
    all = let all = are.all in omega (arith, all, length-append xs (x ∷ []), length-append ys (y ∷ []));
    each = λ i a b lt. by_case i a b (i == length xs) refl lt;
  }
    where
      by_case : (i : ℕ) (a : A) (b : B) (t : Bool) → (i == length xs) ≡ t → i < length (xs ++ x ∷ []) → R (get_or (xs ++ x ∷ []) i a) (get_or (ys ++ y ∷ []) i b)
      by_case i a b true is lt =
          let here : i ≡ length xs = grind (arith, nat_tests, is) in
          let there : i ≡ length ys = here ∙ sym are.all in
          let left : get_or (xs ++ x ∷ []) i a ≡ x = rw here (get_or-append_seam xs x [] a) in
          let right : get_or (ys ++ y ∷ []) i b ≡ y = rw there (get_or-append_seam ys y [] b) in
          subst (λ (u : A). R u (get_or (ys ++ y ∷ []) i b)) (sym left) (subst (λ (v : B). R x v) (sym right) last)
      by_case i a b false is lt =
          let apart : i ≢ length xs = grind (arith, nat_tests, is) in
          let low : i < length xs = omega (arith, lt, apart, length-append xs (x ∷ [])) in
          let low' : i < length ys = (let all = are.all in omega (arith, low, all)) in
          subst (λ (u : A). R u (get_or (ys ++ y ∷ []) i b)) (sym (get_or_append_left xs (x ∷ []) a i low))
          (subst (λ (v : B). R (get_or xs i a) v) (sym (get_or_append_left ys (y ∷ []) b i low')) (are.each i a b low))

  -- where one of the second is another one
  pub each-set : (xs : List A) (ys : List B) (i : ℕ) (y : B) → AreEach R xs ys → i < length xs → ((x : A) → R (get_or xs i x) y) → AreEach R xs (set ys i y)
  each-set xs ys i y are inside here = record {
    all = length-set ys i y ∙ are.all;
    each = λ j a b lt. by_case j a b (j == i) refl lt;
  }
    where
      by_case : (j : ℕ) (a : A) (b : B) (t : Bool) → (j == i) ≡ t → j < length xs → R (get_or xs j a) (get_or (set ys i y) j b)
      by_case j a b true is lt =
          let same : j ≡ i = grind (arith, nat_tests, is) in
          let value : get_or (set ys i y) i b ≡ y = get_or-set_same ys i y b (let all = are.all in omega (arith, inside, all)) in
          subst (λ (k : ℕ). R (get_or xs k a) (get_or (set ys i y) k b)) (sym same) (subst (λ (v : B). R (get_or xs i a) v) (sym value) (here a))
      by_case j a b false is lt =
          let apart : j ≢ i = grind (arith, nat_tests, is) in
          subst (λ (v : B). R (get_or xs j a) v) (sym (get_or-set_other ys i j y b apart)) (are.each j a b lt)

  -- what holds of all that are so related
  pub each-all : (P : B → Type 0) (xs : List A) (ys : List B) → AreEach R xs ys → ((x : A) (y : B) → R x y → P y) → All P ys
  each-all P xs ys are so k d lt =
      let low : k < length xs = (let all = are.all in omega (arith, lt, all)) in
      so (get_or xs k (some-of xs k low)) (get_or ys k d) (are.each k (some-of xs k low) d low)

-- each is so related to itself
pub each-self : {A : Type 0} (R : A → A → Type 0) (xs : List A) → All (λ x. R x x) xs → AreEach R xs xs
each-self R xs all = record {
  all = refl;
  each = λ i x y lt. subst (λ v. R (get_or xs i x) v) (get_or_default xs i x y lt) (all i x lt);
}

pub each-chain : {A B C : Type 0} (R : A → B → Type 0) (S : B → C → Type 0) (T : A → C → Type 0) (xs : List A) (ys : List B) (zs : List C) → AreEach R xs ys → AreEach S ys zs
    → ((x : A) (y : B) (z : C) → R x y → S y z → T x z) → AreEach T xs zs
each-chain R S T xs ys zs first second so = record {
  all = second.all ∙ first.all;
  each = λ i x z lt.
      let low : i < length ys = (let all = first.all in omega (arith, lt, all)) in
      let y = some-of ys i low in
      so (get_or xs i x) (get_or ys i y) (get_or zs i z) (first.each i x y lt) (second.each i y z low);
}
