-- The totals of a tool, one by one.
use Rattle.std.proofs.Common.{◌≡◌, ◌∙◌, ℕ, suc, zero, ◌+◌, ◌-◌, ◌<◌, ◌≤◌, List, [], ◌∷◌, ◌++◌, length, take, set, refl, sym, ap, append_assoc, arith}
use Rattle.std.specs.Prelude.{Option, None, Some, slice_get}
use Rattle.std.proofs.lemmas.Grind.{common_steps}
use Rattle.rt_base.specs.declared.TheConstants.{MOST_TOTALS}
use Rattle.trace_tools.specs.Tools.{Tool, total_of, totals, totals_from}

totals_from-some : (n i x : ℕ) (t : Tool) → total_of t i ≡ Some x → totals_from (suc n) i t ≡ x ∷ totals_from n (suc i) t
totals_from-some n i x t is = ap (λ (o : Option ℕ). elim o [ None ↦ [] | Some y ↦ y ∷ totals_from n (suc i) t ]) is

totals_from-none : (n i : ℕ) (t : Tool) → total_of t i ≡ None → totals_from (suc n) i t ≡ []
totals_from-none n i t is = ap (λ (o : Option ℕ). elim o [ None ↦ [] | Some y ↦ y ∷ totals_from n (suc i) t ]) is

take-set-next : (xs : List ℕ) (i x : ℕ) → i < length xs → take (i + 1) (set xs i x) ≡ take i xs ++ x ∷ []
take-set-next xs i x below = grind (arith, common_steps)

append-none : (xs : List ℕ) → xs ++ [] ≡ xs
append-none xs = grind (arith, common_steps)

pub totals-begin : (t : Tool) (numbers : List ℕ) → take 0 numbers ++ totals_from (MOST_TOTALS - 0) 0 t ≡ totals t
unfolding totals
totals-begin t numbers = refl

pub totals-next : (t : Tool) (numbers : List ℕ) (m i x : ℕ) → i < m → length numbers ≡ m → total_of t i ≡ Some x
    → take i numbers ++ totals_from (m - i) i t ≡ totals t → take (i + 1) (set numbers i x) ++ totals_from (m - (i + 1)) (i + 1) t ≡ totals t
totals-next t numbers m i x below len is so_far =
    let left : m - i ≡ suc (m - (i + 1)) = omega arith in
    let within : i < length numbers = omega arith in
    let next : suc i ≡ i + 1 = omega arith in
    let head : totals_from (m - i) i t ≡ x ∷ totals_from (m - (i + 1)) (i + 1) t = ap (λ (n : ℕ). totals_from n i t) left ∙ totals_from-some (m - (i + 1)) i x t is ∙ ap (λ (k : ℕ). x ∷ totals_from (m - (i + 1)) k t) next in
    ap (λ (xs : List ℕ). xs ++ totals_from (m - (i + 1)) (i + 1) t) (take-set-next numbers i x within) ∙ append_assoc (take i numbers) (x ∷ []) (totals_from (m - (i + 1)) (i + 1) t) ∙ ap (λ (ys : List ℕ). take i numbers ++ ys) (sym head) ∙ so_far

pub totals-stop : (t : Tool) (numbers : List ℕ) (m i : ℕ) → i < m → total_of t i ≡ None → take i numbers ++ totals_from (m - i) i t ≡ totals t → take i numbers ≡ totals t
totals-stop t numbers m i below is so_far =
    let left : m - i ≡ suc (m - (i + 1)) = omega arith in
    let none : totals_from (m - i) i t ≡ [] = ap (λ (n : ℕ). totals_from n i t) left ∙ totals_from-none (m - (i + 1)) i t is in
    sym (append-none (take i numbers)) ∙ ap (λ (ys : List ℕ). take i numbers ++ ys) (sym none) ∙ so_far

pub totals-all : (t : Tool) (numbers : List ℕ) (m i : ℕ) → m ≤ i → take i numbers ++ totals_from (m - i) i t ≡ totals t → take i numbers ≡ totals t
totals-all t numbers m i past so_far =
    let left : m - i ≡ 0 = omega arith in
    let none : totals_from (m - i) i t ≡ [] = ap (λ (n : ℕ). totals_from n i t) left in
    sym (append-none (take i numbers)) ∙ ap (λ (ys : List ℕ). take i numbers ++ ys) (sym none) ∙ so_far

-- where each total is the number at its counter, the totals are the numbers
slice_get-past : (front : List ℕ) → slice_get front (length front) ≡ None
slice_get-past [] = refl
slice_get-past (x ∷ xs) = slice_get-past xs

slice_get-at : (front : List ℕ) (x : ℕ) (back : List ℕ) → slice_get (front ++ x ∷ back) (length front) ≡ Some x
slice_get-at [] x back = refl
slice_get-at (y ∷ ys) x back = slice_get-at ys x back

totals_from-numbers : (t : Tool) (n : ℕ) (front back : List ℕ) → ((i : ℕ) → total_of t i ≡ slice_get (front ++ back) i) → length back ≤ n → totals_from n (length front) t ≡ back
totals_from-numbers t zero front [] each fits = refl
totals_from-numbers t zero front (x ∷ back) each fits = absurd (omega arith)
totals_from-numbers t (suc n) front [] each fits = totals_from-none n (length front) t (each (length front) ∙ ap (λ (xs : List ℕ). slice_get xs (length front)) (append-none front) ∙ slice_get-past front)
totals_from-numbers t (suc n) front (x ∷ back) each fits =
    let moved : (i : ℕ) → total_of t i ≡ slice_get ((front ++ x ∷ []) ++ back) i = λ i. each i ∙ ap (λ (xs : List ℕ). slice_get xs i) (sym (append_assoc front (x ∷ []) back)) in
    let len : suc (length front) ≡ length (front ++ x ∷ []) = grind (arith, common_steps) in
    totals_from-some n (length front) x t (each (length front) ∙ slice_get-at front x back) ∙ ap (λ (k : ℕ). x ∷ totals_from n k t) len ∙ ap (λ (ys : List ℕ). x ∷ ys) (totals_from-numbers t n (front ++ x ∷ []) back moved (omega arith))

pub totals-numbers : (t : Tool) (numbers : List ℕ) → ((i : ℕ) → total_of t i ≡ slice_get numbers i) → length numbers ≤ MOST_TOTALS → totals t ≡ numbers
unfolding totals
totals-numbers t numbers each fits = totals_from-numbers t MOST_TOTALS [] numbers each fits
