-- Counting the calls that failed.
use Rattle.std.proofs.Common.{◌≡◌, ℕ, zero, suc, ◌+◌, ◌-◌, ◌^◌, ◌<◌, ◌≤◌, nat_lt, min, cond, List, [], ◌∷◌, length, slice_index_or, sum_by, refl, arith}
use Rattle.std.proofs.lemmas.Bool.Decides.{nat_tests}
use Rattle.std.proofs.lemmas.List.Sums.{sum_by-cons}
use Rattle.rt_fault.specs.Memory.{Plan, IsFailing, after_call, failed_calls}

-- 1 for a number below c, else 0
weight : ℕ → ℕ → ℕ
weight c k = cond (nat_lt k c) 1 0

-- a number is below a later one too
weight_rises : (k c d : ℕ) → c ≤ d → weight c k ≤ weight d k
unfolding weight
weight_rises k c d h = grind (arith, nat_tests)

-- a number is below a later one only
weight_rises_at : (k c d : ℕ) → c < d → k ≡ c → weight c k < weight d k
unfolding weight
weight_rises_at k c d h e = grind (arith, nat_tests)

-- the numbers below a later one are no fewer
count_below_rises : (fails : List ℕ) (c d : ℕ) → c ≤ d → sum_by (weight c) fails ≤ sum_by (weight d) fails
count_below_rises [] c d h = omega arith
count_below_rises (k ∷ fails) c d h =
    rw (sum_by-cons (weight c) k fails, sum_by-cons (weight d) k fails)
    (omega (arith, weight_rises k c d h, count_below_rises fails c d h))

-- they are more, where the number itself is among them
count_below_rises_at :
    (fails : List ℕ) (i c d : ℕ) → c < d → i < length fails → slice_index_or fails i c ≡ c
    → sum_by (weight c) fails < sum_by (weight d) fails
count_below_rises_at [] i c d h at is = omega arith
count_below_rises_at (k ∷ fails) zero c d h at is =
    rw (sum_by-cons (weight c) k fails, sum_by-cons (weight d) k fails)
    (omega (arith, weight_rises_at k c d h is, count_below_rises fails c d (omega arith)))
count_below_rises_at (k ∷ fails) (suc i) c d h at is =
    rw (sum_by-cons (weight c) k fails, sum_by-cons (weight d) k fails)
    (omega (arith, weight_rises k c d (omega arith), count_below_rises_at fails i c d h (omega arith) is))

-- the numbers below a later one are the same, where none is at it or between
count_below_same :
    (fails : List ℕ) (c d e : ℕ) → ((i : ℕ) → i < length fails → weight d (slice_index_or fails i e) ≡ weight c (slice_index_or fails i e))
    → sum_by (weight d) fails ≡ sum_by (weight c) fails
count_below_same [] c d e same = refl
count_below_same (k ∷ fails) c d e same =
    let here = same 0 (omega arith) in
    let rest = count_below_same fails c d e (λ i h. same (suc i) (omega arith)) in
    rw (sum_by-cons (weight d) k fails, sum_by-cons (weight c) k fails) (omega arith)

-- the calls that could fail, by the number of the next call
abbrev made : ℕ → ℕ
made calls = min calls (2 ^ 32)

abbrev next : ℕ → ℕ
next calls = min (calls + 1) (2 ^ 64 - 1)

-- a number that is not the call's is that of a call made after it only if before it
weight_same : (k c : ℕ) → c < 2 ^ 64 → (c < 2 ^ 32 → k ≡ c → ⊥) → weight (made (next c)) k ≡ weight (made c) k
unfolding weight
weight_same k c small other = grind (arith, nat_tests)

-- a call that is made takes back no fault
pub failed_calls-after_call : (p : Plan) → p.calls < 2 ^ 64 → failed_calls p ≤ failed_calls (after_call p)
unfolding weight
failed_calls-after_call p h = count_below_rises p.fails (made p.calls) (made (next p.calls)) (omega arith)

-- a call that fails is a fault more
pub failed_calls-fails : (p : Plan) → IsFailing p → failed_calls p < failed_calls (after_call p)
unfolding weight
failed_calls-fails p (small, (i, at, is)) =
    let here : made p.calls ≡ p.calls = omega arith in
    rw here (count_below_rises_at p.fails i p.calls (made (next p.calls)) (omega arith) at is)

-- a call that does not fail is none
pub failed_calls-no_fail : (p : Plan) → p.calls < 2 ^ 64 → (IsFailing p → ⊥) → failed_calls (after_call p) ≡ failed_calls p
unfolding weight
failed_calls-no_fail p small sure =
    count_below_same p.fails (made p.calls) (made (next p.calls)) p.calls
    (λ i at. weight_same (slice_index_or p.fails i p.calls) p.calls small (λ few is. sure (few, (i, at, is))))
