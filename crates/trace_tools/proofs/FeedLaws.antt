-- A list whose elements are changed one by one.
use Rattle.std.proofs.Common.{◌≡◌, ◌∙◌, ℕ, zero, suc, ◌+◌, ◌<◌, ◌≤◌, List, [], ◌∷◌, length, map, get_or, set, refl, ap, arith}

-- the list with the first so many elements changed
abbrev pub changed : {A : Type 0} → (A → A) → ℕ → List A → List A
changed h zero xs = xs
changed h (suc i) [] = []
changed h (suc i) (x ∷ xs) = h x ∷ changed h i xs

change-one : {P A : Type 0} (f : P → A) (h : A → A) (xs : List A) (ps : List P) (i : ℕ) (p q : P) → i < length ps → p ≡ get_or ps i p → f q ≡ h (f p)
    → map f ps ≡ changed h i xs → map f (set ps i q) ≡ changed h (suc i) xs
change-one f h xs [] i p q below is new so_far = absurd (omega arith)
change-one f h [] (r ∷ rs) zero p q below is new so_far = cc
change-one f h (x ∷ xs) (r ∷ rs) zero p q below is new so_far = cc
change-one f h [] (r ∷ rs) (suc i) p q below is new so_far = cc
change-one f h (x ∷ xs) (r ∷ rs) (suc i) p q below is new so_far =
    let later : map f rs ≡ changed h i xs = cc in
    let here : f r ≡ h x = cc in
    let more : map f (set rs i q) ≡ changed h (suc i) xs = change-one f h xs rs i p q (omega arith) is new later in
    ap (λ (y : _). y ∷ map f (set rs i q)) here ∙ ap (λ (ys : List _). h x ∷ ys) more

pub change-next : {P A : Type 0} (f : P → A) (h : A → A) (xs : List A) (ps : List P) (i : ℕ) (p q : P) → i < length ps → p ≡ get_or ps i p → f q ≡ h (f p)
    → map f ps ≡ changed h i xs → map f (set ps i q) ≡ changed h (i + 1) xs
change-next f h xs ps i p q below is new so_far =
    let next : suc i ≡ i + 1 = omega arith in
    change-one f h xs ps i p q below is new so_far ∙ ap (λ (k : ℕ). changed h k xs) next

pub change-all : {A : Type 0} (h : A → A) (i : ℕ) (xs : List A) → length xs ≤ i → changed h i xs ≡ map h xs
change-all h zero [] past = refl
change-all h zero (x ∷ xs) past = absurd (omega arith)
change-all h (suc i) [] past = refl
change-all h (suc i) (x ∷ xs) past = ap (λ (ys : List _). h x ∷ ys) (change-all h i xs (omega arith))

length-changed : {A : Type 0} (h : A → A) (i : ℕ) (xs : List A) → length (changed h i xs) ≡ length xs
length-changed h zero xs = refl
length-changed h (suc i) [] = refl
length-changed h (suc i) (x ∷ xs) = ap suc (length-changed h i xs)

length-mapped : {P A : Type 0} (f : P → A) (ps : List P) → length (map f ps) ≡ length ps
length-mapped f [] = refl
length-mapped f (p ∷ ps) = ap suc (length-mapped f ps)

-- the lists stay as long as they are
pub changed-within : {P A : Type 0} (f : P → A) (h : A → A) (ps qs : List P) (i n : ℕ) → n ≡ length qs → i < n → map f ps ≡ changed h i (map f qs) → i < length ps
changed-within f h ps qs i n len below so_far = omega (arith, length-mapped f ps, length-mapped f qs, length-changed h i (map f qs), ap length so_far)

pub mapped-past : {P A : Type 0} (f : P → A) (qs : List P) (i n : ℕ) → n ≡ length qs → n ≤ i → length (map f qs) ≤ i
mapped-past f qs i n len past = omega (arith, length-mapped f qs)
