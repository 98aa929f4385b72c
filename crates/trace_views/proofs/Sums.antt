-- Sums over numbers that follow each other.
use Rattle.std.proofs.Common.{◌≡◌, ◌∙◌, ℕ, suc, zero, ◌+◌, ◌<◌, ◌≤◌, Bool, true, false, List, [], ◌∷◌, ◌&&◌, map, refl, ap, arith, eqb-true}
use Rattle.std.specs.Prelude.{if◌then◌else◌, sum_by, count_by, ◌==◌}
use Rattle.std.proofs.lemmas.Bool.{eqb-false, ne_eqb}
use Rattle.std.proofs.lemmas.List.Sums.{sum_by-cons}
use Rattle.rt_rules.specs.Numbers.{numbers_from}

-- a number that is less than another is not that
pub below_differs : (a b : ℕ) → a < b → a == b ≡ false
below_differs a b h = ne_eqb a b (λ e. absurd (omega (arith, h, e)))

pub above_differs : (a b : ℕ) → b < a → a == b ≡ false
above_differs a b h = ne_eqb a b (λ e. absurd (omega (arith, h, e)))

-- the sum of equal summands
pub sum-same : (c d : ℕ → ℕ) (i n : ℕ) → ((k : ℕ) → i ≤ k → c k ≡ d k) → sum_by c (numbers_from i n) ≡ sum_by d (numbers_from i n)
sum-same c d i zero h = refl
sum-same c d i (suc n) h =
    rw (sum_by-cons c i (numbers_from (suc i) n), sum_by-cons d i (numbers_from (suc i) n), h i (omega arith), sum-same c d (suc i) n (λ k m. h k (omega (arith, m)))) refl

-- the sum of all numbers but the last, and of the last
pub sum-last : (c : ℕ → ℕ) (i n : ℕ) → sum_by c (numbers_from i (suc n)) ≡ sum_by c (numbers_from i n) + c (i + n)
sum-last c i zero =
    let at : i ≡ i + 0 = omega arith in
    ap (λ m. 0 + c m) at
sum-last c i (suc n) =
    let at : suc i + n ≡ i + suc n = omega arith in
    let parts : sum_by c (numbers_from (suc i) (suc n)) ≡ sum_by c (numbers_from (suc i) n) + c (i + suc n) = sum-last c (suc i) n ∙ ap (λ m. sum_by c (numbers_from (suc i) n) + c m) at in
    sum_by-cons c i (numbers_from (suc i) (suc n)) ∙ rw (sum_by-cons c i (numbers_from (suc i) n), parts) (omega arith)

-- one more at one number
abbrev pub raised_at : ℕ → Bool → (ℕ → ℕ) → ℕ → ℕ
raised_at a b c k = if a == k && b then c k + 1 else c k

sum-raised_below : (a : ℕ) (b : Bool) (c : ℕ → ℕ) (i n : ℕ) → a < i → sum_by (raised_at a b c) (numbers_from i n) ≡ sum_by c (numbers_from i n)
sum-raised_below a b c i n low = sum-same (raised_at a b c) c i n (λ k m. rw (below_differs a k (omega (arith, low, m))) refl)

pub sum-raised : (a : ℕ) (b : Bool) (c : ℕ → ℕ) (i n : ℕ) → i ≤ a → a < i + n → sum_by (raised_at a b c) (numbers_from i n) ≡ (if b then sum_by c (numbers_from i n) + 1 else sum_by c (numbers_from i n))
sum-raised a b c i zero low high = absurd (omega (arith, low, high))
sum-raised a b c i (suc n) low high = rw (sum_by-cons (raised_at a b c) i (numbers_from (suc i) n), sum_by-cons c i (numbers_from (suc i) n)) (by_case (a == i) refl (λ m. sum-raised a b c (suc i) n m (omega (arith, high))))
  where
    here : (x : Bool) → (if x then c i + 1 else c i) + sum_by c (numbers_from (suc i) n) ≡ (if x then c i + sum_by c (numbers_from (suc i) n) + 1 else c i + sum_by c (numbers_from (suc i) n))
    here true = omega arith
    here false = refl

    later : (x : Bool) → c i + (if x then sum_by c (numbers_from (suc i) n) + 1 else sum_by c (numbers_from (suc i) n)) ≡ (if x then c i + sum_by c (numbers_from (suc i) n) + 1 else c i + sum_by c (numbers_from (suc i) n))
    later true = omega arith
    later false = refl

    by_case : (x : Bool) → a == i ≡ x → (suc i ≤ a → sum_by (raised_at a b c) (numbers_from (suc i) n) ≡ (if b then sum_by c (numbers_from (suc i) n) + 1 else sum_by c (numbers_from (suc i) n))) → (if x && b then c i + 1 else c i) + sum_by (raised_at a b c) (numbers_from (suc i) n) ≡ (if b then c i + sum_by c (numbers_from (suc i) n) + 1 else c i + sum_by c (numbers_from (suc i) n))
    by_case true e later_ones =
        let same : a ≡ i = eqb-true a i e in
        rw (sum-raised_below a b c (suc i) n (omega (arith, same))) (here b)
    by_case false e later_ones =
        let apart : (a ≡ i → ⊥) = eqb-false a i e in
        rw (later_ones (omega (arith, low, apart))) (later b)

-- a sum over rows that are made of numbers, and a count of them
pub sum-map : {X : Type 0} (f : X → ℕ) (row : ℕ → X) (ks : List ℕ) → sum_by f (map row ks) ≡ sum_by (λ k. f (row k)) ks
sum-map f row [] = refl
sum-map f row (k ∷ ks) = rw (sum_by-cons f (row k) (map row ks), sum_by-cons (λ i. f (row i)) k ks, sum-map f row ks) refl

abbrev pub one_if : Bool → ℕ
one_if b = if b then 1 else 0

pub count-map : {X : Type 0} (p : X → Bool) (row : ℕ → X) (ks : List ℕ) → count_by p (map row ks) ≡ sum_by (λ k. one_if (p (row k))) ks
count-map p row ks = sum-map (λ x. one_if (p x)) row ks
