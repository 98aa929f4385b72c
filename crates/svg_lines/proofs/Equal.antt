-- Lists of different lengths differ.
use Rattle.std.proofs.Common.{◌≡◌, ℕ, false, List, [], ◌∷◌, length, map, refl, arith}
use Rattle.std.proofs.lemmas.List.{length-map}
use Rattle.std.specs.Prelude.{◌==◌}
use Rattle.rt_rules.proofs.BoolLaws.{and_false}
use Rattle.svg_texts.specs.Parts.{same_list}

longer : (xs ys : List ℕ) → (length xs ≡ length ys → ⊥) → same_list xs ys ≡ false
longer [] [] h = absurd (h refl)
longer [] (y ∷ ys) h = refl
longer (x ∷ xs) [] h = refl
longer (x ∷ xs) (y ∷ ys) h = rw (longer xs ys (λ e. h (omega (arith, e)))) (and_false (x == y))

pub numbers-longer : {A : Type 0} (f : A → ℕ) (xs ys : List A) → (length xs ≡ length ys → ⊥) → false ≡ same_list (map f xs) (map f ys)
numbers-longer f xs ys h =
    let differ : (length (map f xs) ≡ length (map f ys) → ⊥) = λ e. h (omega (arith, e, length-map xs f, length-map ys f)) in
    rw (longer (map f xs) (map f ys) differ) refl
