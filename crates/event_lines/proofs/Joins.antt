-- Texts that are put one behind the other.
use Rattle.std.proofs.Common.{◌≡◌, ◌∙◌, ℕ, suc, ◌-◌, ◌≤◌, List, [], ◌∷◌, ◌++◌, length, take, drop, get_or, sym, ap, arith, append_assoc, append-nil}
use Rattle.std.specs.List.{join_with_byte}
use Rattle.std.specs.Prelude.{flat_map}
use Rattle.std.proofs.lemmas.Grind.{flat_map-append}
use Rattle.std.proofs.Math.Seq.{take-length}

-- joined pieces are the first, and the others each behind a separator
pub join_with_byte-cons : (c : ℕ) (x : List ℕ) (xs : List (List ℕ)) → join_with_byte c (x ∷ xs) ≡ x ++ flat_map (λ y. c ∷ y) xs
join_with_byte-cons c x [] = sym (append-nil x)
join_with_byte-cons c x (y ∷ xs) = ap (λ zs. x ++ c ∷ zs) (join_with_byte-cons c y xs)

-- the same of what was made of elements, where the first is put and then the others
pub join-first : {X : Type 0} (c : ℕ) (pieces : List X → List (List ℕ)) (p : X → List ℕ) → ((x : X) (xs : List X) → pieces (x ∷ xs) ≡ p x ∷ pieces xs)
    → (xs : List X) (d : X) → 1 ≤ length xs → p (get_or xs 0 d) ++ flat_map (λ w. c ∷ w) (pieces (take (length xs - 1) (drop 1 xs))) ≡ join_with_byte c (pieces xs)
join-first c pieces p split [] d some = absurd (omega arith)
join-first c pieces p split (x ∷ xs) d some =
    let size : suc (length xs) - 1 ≡ length xs = omega arith in
    ap (λ ys. p x ++ flat_map (λ w. c ∷ w) (pieces ys)) (ap (λ n. take n xs) size ∙ take-length xs)
    ∙ sym (ap (join_with_byte c) (split x xs) ∙ join_with_byte-cons c (p x) (pieces xs))

pub ruleset joins = (append_assoc, append-nil)

pub ruleset loops = (append_assoc, append-nil, flat_map-append)
