-- The Works of each processor.
use Rattle.std.proofs.Common.{◌≡◌, ◌∙◌, ◌≢◌, ℕ, zero, suc, ◌+◌, ◌<◌, ◌≤◌, Bool, true, false, List, [], ◌∷◌, length, map, set, take, cond, refl, sym, ap, arith, lit≤}
use Rattle.std.specs.Prelude.{◌&&◌, count_by, max, min, nat_eq, nat_lt, slice_index, slice_set}
use Rattle.std.proofs.lemmas.Bool.Decides.{nat_tests}
use Rattle.rt_base.specs.declared.TheConstants.{MOST_CPUS, MOST_TOTALS}
use Rattle.rt_rules.specs.Numbers.{numbers_from}
use Rattle.trace_tools.specs.declared.shown.Shown.{Shown}
use Rattle.trace_tools.specs.Tools.{Tool, after, totals}
use Rattle.trace_tools.specs.Entries.{counted_by, is_work, most, occupancy, processors_shown, reach, works_on}
use Rattle.trace_tools.specs.Rules.{new_occupancy, occupancy_rules, occupy, raise_at, raised}
use Rattle.trace_tools.proofs.CountLaws.{count-cons, raised-then, raised-within}
use Rattle.trace_tools.proofs.TotalLaws.{totals-numbers}

-- A table of counts of which only the first few are shown: the others are 0.

rest-zero : (w : ℕ) (ws : List ℕ) (m : ℕ) → ((k : ℕ) → suc m ≤ k → slice_index (w ∷ ws) k ≡ 0) → (k : ℕ) → m ≤ k → slice_index ws k ≡ 0
rest-zero w ws m none k h = none (suc k) (omega arith)

all-zero : (w : ℕ) (ws : List ℕ) → ((k : ℕ) → 0 ≤ k → slice_index (w ∷ ws) k ≡ 0) → (k : ℕ) → 0 ≤ k → slice_index ws k ≡ 0
all-zero w ws none k h = none (suc k) (omega arith)

pub raise-taken : (ws : List ℕ) (m q top : ℕ) (b : Bool) → q < length ws → top ≡ max m (suc q) → ((k : ℕ) → m ≤ k → slice_index ws k ≡ 0)
    → take top (set ws q (raised b (slice_index ws q))) ≡ raise_at q b (take m ws)
raise-taken [] m q top b below is none = absurd (omega arith)
raise-taken (w ∷ ws) zero zero top b below is none =
    let one : top ≡ 1 = omega arith in
    let w_zero : w ≡ 0 = none 0 (omega arith) in
    ap (λ (k : ℕ). take k (raised b w ∷ ws)) one ∙ ap (λ (v : ℕ). raised b v ∷ []) w_zero
raise-taken (w ∷ ws) zero (suc q) zero b below is none = absurd (omega arith)
raise-taken (w ∷ ws) zero (suc q) (suc top) b below is none =
    let w_zero : w ≡ 0 = none 0 (omega arith) in
    ap (λ (v : ℕ). v ∷ take top (set ws q (raised b (slice_index ws q)))) w_zero
    ∙ ap (λ (vs : List ℕ). 0 ∷ vs) (raise-taken ws zero q top b (omega arith) (omega arith) (all-zero w ws none))
raise-taken (w ∷ ws) (suc m) zero top b below is none =
    let one : top ≡ suc m = omega arith in
    ap (λ (k : ℕ). take k (raised b w ∷ ws)) one
raise-taken (w ∷ ws) (suc m) (suc q) zero b below is none = absurd (omega arith)
raise-taken (w ∷ ws) (suc m) (suc q) (suc top) b below is none =
    ap (λ (vs : List ℕ). w ∷ vs) (raise-taken ws m q top b (omega arith) (omega arith) (rest-zero w ws m none))

pub occupy-taken : (ws : List ℕ) (m q top v : ℕ) (b : Bool) → length ws ≡ MOST_CPUS → q < MOST_CPUS → top ≡ max m (q + 1) → v ≡ raised b (slice_index ws q)
    → ((k : ℕ) → m ≤ k → slice_index ws k ≡ 0) → take top (slice_set ws q v) ≡ occupy q b (take m ws)
occupy-taken ws m q top v b len below is new none =
    let within : q < length ws = omega arith in
    let next : top ≡ max m (suc q) = omega arith in
    let test : nat_lt q MOST_CPUS ≡ true = grind (arith, nat_tests) in
    ap (λ (x : ℕ). take top (slice_set ws q x)) new ∙ raise-taken ws m q top b within next none
    ∙ ap (λ (t : Bool). cond t (raise_at q b (take m ws)) (take m ws)) (sym test)

-- What the state is after entries.

index-raise-here : (q : ℕ) (b : Bool) (xs : List ℕ) → slice_index (raise_at q b xs) q ≡ raised b (slice_index xs q)
index-raise-here zero b [] = refl
index-raise-here zero b (x ∷ xs) = refl
index-raise-here (suc q) b [] = index-raise-here q b []
index-raise-here (suc q) b (x ∷ xs) = index-raise-here q b xs

index-raise-other : (q : ℕ) (b : Bool) (xs : List ℕ) (k : ℕ) → q ≢ k → slice_index (raise_at q b xs) k ≡ slice_index xs k
index-raise-other zero b [] zero ne = absurd (ne refl)
index-raise-other zero b [] (suc k) ne = refl
index-raise-other zero b (x ∷ xs) zero ne = absurd (ne refl)
index-raise-other zero b (x ∷ xs) (suc k) ne = refl
index-raise-other (suc q) b [] zero ne = refl
index-raise-other (suc q) b [] (suc k) ne = index-raise-other q b [] k (λ same. ne (ap suc same))
index-raise-other (suc q) b (x ∷ xs) zero ne = refl
index-raise-other (suc q) b (x ∷ xs) (suc k) ne = index-raise-other q b xs k (λ same. ne (ap suc same))

index-raise_at : (q : ℕ) (b : Bool) (xs : List ℕ) (k : ℕ) → slice_index (raise_at q b xs) k ≡ raised (nat_eq q k && b) (slice_index xs k)
index-raise_at q b xs k = by_case (nat_eq q k) refl
  where
    by_case : (t : Bool) → nat_eq q k ≡ t → slice_index (raise_at q b xs) k ≡ raised (t && b) (slice_index xs k)
    by_case true same =
        let e : q ≡ k = grind (arith, nat_tests) in
        ap (λ (j : ℕ). slice_index (raise_at q b xs) j) (sym e) ∙ index-raise-here q b xs ∙ ap (λ (j : ℕ). raised b (slice_index xs j)) e
    by_case false other =
        let ne : q ≢ k = grind (arith, nat_tests) in
        index-raise-other q b xs k ne

length-raise_at : (q : ℕ) (b : Bool) (xs : List ℕ) → length (raise_at q b xs) ≡ max (length xs) (suc q)
length-raise_at zero b [] = omega arith
length-raise_at zero b (x ∷ xs) = omega arith
length-raise_at (suc q) b [] =
    let more : length (raise_at q b []) ≡ max 0 (suc q) = length-raise_at q b [] in
    omega arith
length-raise_at (suc q) b (x ∷ xs) =
    let more : length (raise_at q b xs) ≡ max (length xs) (suc q) = length-raise_at q b xs in
    omega arith

abbrev IsCounts : List ℕ → Type 0
IsCounts xs = (k : ℕ) → slice_index xs k ≤ most

index-occupy : (q : ℕ) (b : Bool) (xs : List ℕ) (k : ℕ) → k < MOST_CPUS → slice_index (occupy q b xs) k ≡ raised (nat_eq q k && b) (slice_index xs k)
index-occupy q b xs k below = by_case (nat_lt q MOST_CPUS) refl
  where
    by_case : (t : Bool) → nat_lt q MOST_CPUS ≡ t → slice_index (cond t (raise_at q b xs) xs) k ≡ raised (nat_eq q k && b) (slice_index xs k)
    by_case true within = index-raise_at q b xs k
    by_case false beyond =
        let other : nat_eq q k ≡ false = grind (arith, nat_tests) in
        sym (ap (λ (t : Bool). raised (t && b) (slice_index xs k)) other)

length-occupy : (q : ℕ) (b : Bool) (xs : List ℕ) → length (occupy q b xs) ≡ max (length xs) (reach q)
length-occupy q b xs = by_case (nat_lt q MOST_CPUS)
  where
    by_case : (t : Bool) → length (cond t (raise_at q b xs) xs) ≡ max (length xs) (cond t (suc q) 0)
    by_case true = length-raise_at q b xs
    by_case false = omega arith

counts-occupy : (q : ℕ) (b : Bool) (xs : List ℕ) → IsCounts xs → IsCounts (occupy q b xs)
counts-occupy q b xs counts k = by_case (nat_lt q MOST_CPUS)
  where
    raised_counts : slice_index (raise_at q b xs) k ≤ most
    raised_counts =
        let is : slice_index (raise_at q b xs) k ≡ raised (nat_eq q k && b) (slice_index xs k) = index-raise_at q b xs k in
        let within : raised (nat_eq q k && b) (slice_index xs k) ≤ most = raised-within (nat_eq q k && b) (slice_index xs k) (counts k) in
        omega (arith, is, within)

    by_case : (t : Bool) → slice_index (cond t (raise_at q b xs) xs) k ≤ most
    by_case true = raised_counts
    by_case false = counts k

-- the state after entries
abbrev run : List Shown → List ℕ → List ℕ
run [] xs = xs
run (e ∷ es) xs = run es (occupy e.entry.step.cpu.0 (is_work e.entry.step.act e.entry.reply) xs)

abbrev at_state : List ℕ → Tool
at_state xs = record { rules = occupancy_rules; state = xs }

after-run : (es : List Shown) (xs : List ℕ) → after es (at_state xs) ≡ at_state (run es xs)
after-run [] xs = refl
after-run (e ∷ es) xs = after-run es (occupy e.entry.step.cpu.0 (is_work e.entry.step.act e.entry.reply) xs)

length-run : (es : List Shown) (xs : List ℕ) → length (run es xs) ≡ max (length xs) (processors_shown es)
length-run [] xs = omega arith
length-run (e ∷ es) xs =
    let q : ℕ = e.entry.step.cpu.0 in
    let b : Bool = is_work e.entry.step.act e.entry.reply in
    let first : length (occupy q b xs) ≡ max (length xs) (reach q) = length-occupy q b xs in
    let later : length (run es (occupy q b xs)) ≡ max (length (occupy q b xs)) (processors_shown es) = length-run es (occupy q b xs) in
    omega (arith, first, later)

index-run : (es : List Shown) (xs : List ℕ) (k : ℕ) → k < MOST_CPUS → IsCounts xs → slice_index (run es xs) k ≡ min (slice_index xs k + count_by (works_on k) es) most
index-run [] xs k below counts =
    let within : slice_index xs k ≤ most = counts k in
    omega arith
index-run (e ∷ es) xs k below counts =
    let q : ℕ = e.entry.step.cpu.0 in
    let b : Bool = is_work e.entry.step.act e.entry.reply in
    let first : slice_index (occupy q b xs) k ≡ raised (works_on k e) (slice_index xs k) = index-occupy q b xs k below in
    index-run es (occupy q b xs) k below (counts-occupy q b xs counts)
    ∙ ap (λ (n : ℕ). min (n + count_by (works_on k) es) most) first
    ∙ raised-then (works_on k e) (slice_index xs k) (count_by (works_on k) es) (counts k)
    ∙ ap (λ (n : ℕ). min (slice_index xs k + n) most) (sym (count-cons (works_on k) e es))

reach-within : (q : ℕ) → reach q ≤ MOST_CPUS
reach-within q = by_case (nat_lt q MOST_CPUS) refl
  where
    by_case : (t : Bool) → nat_lt q MOST_CPUS ≡ t → cond t (suc q) 0 ≤ MOST_CPUS
    by_case true within = grind (arith, nat_tests)
    by_case false beyond = omega arith

shown-within : (es : List Shown) → processors_shown es ≤ MOST_CPUS
shown-within [] = omega arith
shown-within (e ∷ es) = omega (arith, reach-within e.entry.step.cpu.0, shown-within es)

same-lists : (xs ys : List ℕ) → length xs ≡ length ys → ((k : ℕ) → k < length xs → slice_index xs k ≡ slice_index ys k) → xs ≡ ys
same-lists [] [] len each = refl
same-lists [] (y ∷ ys) len each = absurd (omega arith)
same-lists (x ∷ xs) [] len each = absurd (omega arith)
same-lists (x ∷ xs) (y ∷ ys) len each =
    let first : x ≡ y = each 0 (omega arith) in
    let more : xs ≡ ys = same-lists xs ys (omega arith) (λ k h. each (suc k) (omega arith)) in
    ap (λ (v : ℕ). v ∷ xs) first ∙ ap (λ (vs : List ℕ). y ∷ vs) more

length-map-numbers : (f : ℕ → ℕ) (a n : ℕ) → length (map f (numbers_from a n)) ≡ n
length-map-numbers f a zero = refl
length-map-numbers f a (suc n) = ap suc (length-map-numbers f (suc a) n)

index-map-numbers : (f : ℕ → ℕ) (a n k : ℕ) → k < n → slice_index (map f (numbers_from a n)) k ≡ f (a + k)
index-map-numbers f a zero k below = absurd (omega arith)
index-map-numbers f a (suc n) zero below =
    let same : a ≡ a + 0 = omega arith in
    ap f same
index-map-numbers f a (suc n) (suc k) below =
    let same : suc a + k ≡ a + suc k = omega arith in
    index-map-numbers f (suc a) n k (omega arith) ∙ ap f same

run-is : (es : List Shown) → run es [] ≡ occupancy es
run-is es =
    let f : ℕ → ℕ = λ q. counted_by (works_on q) es in
    let len : length (run es []) ≡ processors_shown es = omega (arith, length-run es []) in
    let limit : processors_shown es ≤ MOST_CPUS = shown-within es in
    let none : IsCounts [] = λ k. lit≤ tt in
    same-lists (run es []) (map f (numbers_from 0 (processors_shown es))) (len ∙ sym (length-map-numbers f 0 (processors_shown es)))
    (λ k h.
    let below : k < processors_shown es = omega arith in
    let within : k < MOST_CPUS = omega arith in
    let zero_more : 0 + count_by (works_on k) es ≡ count_by (works_on k) es = omega arith in
    let same : 0 + k ≡ k = omega arith in
    index-run es [] k within none ∙ ap (λ (n : ℕ). min n most) zero_more ∙ ap f (sym same) ∙ sym (index-map-numbers f 0 (processors_shown es) k below))

pub occupancy-counted : (es : List Shown) → totals (after es new_occupancy) ≡ occupancy es
occupancy-counted es =
    let len : length (run es []) ≡ max 0 (processors_shown es) = length-run es [] in
    let limit : processors_shown es ≤ MOST_CPUS = shown-within es in
    let fits : length (run es []) ≤ MOST_TOTALS = omega arith in
    ap totals (after-run es []) ∙ totals-numbers (at_state (run es [])) (run es []) (λ i. refl) fits ∙ run-is es
