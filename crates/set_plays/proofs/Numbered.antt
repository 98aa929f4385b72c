-- Lists with an element for each number in turn.
use Rattle.std.proofs.Common.{◌≡◌, ◌≢◌, ℕ, false, zero, suc, ◌+◌, ◌<◌, ◌≤◌, List, ◌∷◌, length, map, get_or, set, refl, ap, ◌∙◌, arith}
use Rattle.std.specs.Prelude.{Err, Ok, Result, if◌then◌else◌, is_err, is_ok, replicate}
use Rattle.rt_rules.specs.Numbers.{numbers_from}

pub at-number : {A : Type 0} (f : ℕ → A) (a m j : ℕ) (d : A) → j < m → get_or (map f (numbers_from a m)) j d ≡ f (a + j)
at-number f a zero j d low = absurd (omega arith)
at-number f a (suc m) zero d low = let e : a ≡ a + 0 = omega arith in ap f e
at-number f a (suc m) (suc j) d low = let e : suc a + j ≡ a + suc j = omega arith in at-number f (suc a) m j d (omega arith) ∙ ap f e

pub length-numbered : {A : Type 0} (f : ℕ → A) (a m : ℕ) → length (map f (numbers_from a m)) ≡ m
length-numbered f a zero = refl
length-numbered f a (suc m) = omega (arith, length-numbered f (suc a) m)

pub replicate-numbered : {A : Type 0} (x : A) (a m : ℕ) → replicate m x ≡ map (λ n. x) (numbers_from a m)
replicate-numbered x a zero = refl
replicate-numbered x a (suc m) = ap (λ xs. x ∷ xs) (replicate-numbered x (suc a) m)

pub numbered-same : {A : Type 0} (f h : ℕ → A) (a m : ℕ) → ((n : ℕ) → a ≤ n → f n ≡ h n) → map f (numbers_from a m) ≡ map h (numbers_from a m)
numbered-same f h a zero same = refl
numbered-same f h a (suc m) same = rw (same a (omega arith), numbered-same f h (suc a) m (λ n low. same n (omega arith))) refl

-- the element of one number is another
pub numbered-set : {A : Type 0} (f h : ℕ → A) (a m j : ℕ) (x : A) → x ≡ h (a + j) → ((n : ℕ) → n ≢ a + j → f n ≡ h n) → set (map f (numbers_from a m)) j x ≡ map h (numbers_from a m)
numbered-set f h a zero j x here others = refl
numbered-set f h a (suc m) zero x here others =
    let e : a + 0 ≡ a = omega arith in
    rw (here, e, numbered-same f h (suc a) m (λ n low. others n (λ same. omega arith))) refl
numbered-set f h a (suc m) (suc j) x here others =
    let e : a + suc j ≡ suc a + j = omega arith in
    rw (others a (λ same. omega arith), numbered-set f h (suc a) m j x (here ∙ ap h e) (λ n other. others n (λ same. other (same ∙ e)))) refl

-- what was not refused was put behind the others
pub pushed : {A B E : Type 0} (r : Result B E) (xs ys : List A) → is_err r ≡ false → (if is_ok r then xs else ys) ≡ xs
pushed (Ok a) xs ys h = refl
pushed (Err e) xs ys h = cc
