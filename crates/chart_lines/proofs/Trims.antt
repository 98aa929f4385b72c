-- Blanks at the end of a text.
use Rattle.std.proofs.Common.{◌≡◌, ◌∙◌, ℕ, zero, suc, ◌+◌, ◌-◌, ◌<◌, ◌≤◌, false, List, [], ◌∷◌, ◌++◌, length, replicate, take, get_or, refl, sym, ap, subst, arith, append_assoc, length-append}
use Rattle.std.proofs.lemmas.Bool.{ne_eqb}
use Rattle.std.proofs.lemmas.List.{append-nil, take_more}
use Rattle.std.specs.Prelude.{◌==◌}
use Rattle.chart_texts.specs.Rows.{filled, trimmed}

-- a blank at the end is left out, and any other character stays
pub trimmed-blank : (cs : List ℕ) → trimmed (cs ++ 32 ∷ []) ≡ trimmed cs
trimmed-blank [] = refl
trimmed-blank (c ∷ cs) = rw (trimmed-blank cs) refl

pub trimmed-character : (cs : List ℕ) (d : ℕ) → d == 32 ≡ false → trimmed (cs ++ d ∷ []) ≡ cs ++ d ∷ []
trimmed-character [] d h = rw h refl
trimmed-character (c ∷ []) d h = rw h refl
trimmed-character (c ∷ x ∷ cs) d h = rw (trimmed-character (x ∷ cs) d h) refl

-- the first n characters, one by one from the last
last-of : (xs : List ℕ) (n : ℕ) → 0 < n → n ≤ length xs → take n xs ≡ take (n - 1) xs ++ get_or xs (n - 1) 0 ∷ []
last-of xs n some within =
    let number : n ≡ n - 1 + 1 = omega (arith, some) in
    ap (λ m. take m xs) number ∙ take_more xs (n - 1) 0 (omega (arith, some, within))

pub trimmed-shorter : (xs : List ℕ) (n : ℕ) → 0 < n → n ≤ length xs → get_or xs (n - 1) 0 ≡ 32 → trimmed (take (n - 1) xs) ≡ trimmed (take n xs)
trimmed-shorter xs n some within h =
    sym (ap trimmed (last-of xs n some within) ∙ ap (λ d. trimmed (take (n - 1) xs ++ d ∷ [])) h ∙ trimmed-blank (take (n - 1) xs))

pub trimmed-ends : (xs : List ℕ) (n : ℕ) → 0 < n → n ≤ length xs → (get_or xs (n - 1) 0 ≡ 32 → ⊥) → take n xs ≡ trimmed (take n xs)
trimmed-ends xs n some within h =
    let no : get_or xs (n - 1) 0 == 32 ≡ false = ne_eqb (get_or xs (n - 1) 0) 32 h in
    last-of xs n some within ∙ sym (trimmed-character (take (n - 1) xs) (get_or xs (n - 1) 0) no) ∙ sym (ap trimmed (last-of xs n some within))

pub trimmed-none : (xs : List ℕ) (n : ℕ) → n ≤ 0 → take n xs ≡ trimmed (take n xs)
trimmed-none xs n h =
    let zero_is : n ≡ 0 = omega (arith, h) in
    subst (λ m. take m xs ≡ trimmed (take m xs)) (sym zero_is) refl

-- one blank more of those that fill a text
pub filled-more : (width : ℕ) (text : List ℕ) → length text < width → filled width (text ++ 32 ∷ []) ≡ filled width text
filled-more width text h =
    let rest : width - length (text ++ 32 ∷ []) ≡ width - length text - 1 = rw (length-append text (32 ∷ [])) (omega arith) in
    ap (λ n. (text ++ 32 ∷ []) ++ replicate n 32) rest ∙ append_assoc text (32 ∷ []) _ ∙ ap (λ xs. text ++ xs) (one_more 32 (width - length text) (omega (arith, h)))
  where
    one_more : (c n : ℕ) → 0 < n → c ∷ replicate (n - 1) c ≡ replicate n c
    one_more c zero k = elim k [ ]
    one_more c (suc n) k =
        let same : suc n - 1 ≡ n = omega arith in
        ap (λ m. c ∷ replicate m c) same

pub filled-enough : (width : ℕ) (text : List ℕ) → width ≤ length text → filled width text ≡ text
filled-enough width text h =
    let none : width - length text ≡ 0 = omega (arith, h) in
    ap (λ n. text ++ replicate n 32) none ∙ append-nil text
