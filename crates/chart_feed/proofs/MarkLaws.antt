-- The marks are those of the definitions: the greatest job that is due decides whether one is missed.
use Rattle.std.proofs.Common.{◌≡◌, ◌∙◌, ℕ, zero, suc, ◌+◌, ◌-◌, ◌*◌, ◌/◌, ◌<◌, ◌≤◌, ◌⊎◌, inl, inr, min, Bool, true, false, ◌&&◌, ◌||◌, List, [], ◌∷◌, ◌++◌, length, get_or, refl, sym, ap, arith, leb-true, ltb-true, All}
use Rattle.std.specs.List.{list_any}
use Rattle.std.specs.List.Sorted.{IsNonDecreasing}
use Rattle.std.specs.Prelude.{nat_le, nat_lt, slice_get, unwrap_or, if◌then◌else◌}
use Rattle.std.proofs.Math.Nat.{le-div_iff_mul-le}
use Rattle.std.proofs.lemmas.Bool.{leb-false, ltb-false}
use Rattle.std.proofs.lemmas.Bool.Decides.{nat_tests}
use Rattle.std.proofs.lemmas.List.Sorted.{IsNonDecreasingBy-push}
use Rattle.std.proofs.lemmas.List.Elements.{All-append}
use Rattle.std.proofs.lemmas.List.Sums.{count_by-le-length, sum_by-append, sum_by-cons}
use Rattle.rt_rules.specs.Numbers.{is, numbers_from}
use Rattle.rt_rules.proofs.BoolLaws.{and_false, and_true}
use Rattle.rt_task.specs.declared.Kind.{Kind}
use Rattle.rt_task.specs.declared.Kind.TheVariants.{Periodic, Sporadic}
use Rattle.rt_task.specs.declared.Task.{Task}
use Rattle.rt_model.specs.Group.{Group, task}
use Rattle.rt_model.specs.Past.{Acted, Clock, Past, accepted, ends_job, now}
use Rattle.rt_model.specs.Releases.{arrivals, arrives, release_by}
use Rattle.trace_views.specs.Columns.{Column}
use Rattle.trace_views.specs.Due.{due_before, released_at, released_by}
use Rattle.trace_views.specs.JobMoves.{count_moves}
use Rattle.trace_views.specs.JobTimes.{deadline_of, release_of}
use Rattle.trace_views.specs.Marks.{ended_by, is_missed, marks, released_before}
use Rattle.trace_views.specs.Moments.{Moment}
use Rattle.chart_feed.specs.Finished.{IsTimed}
use Rattle.chart_feed.specs.Times.{Edges, due_in, edges_of, end_clocks, marks_in, released_before_in, released_in, up_to}

-- ---- counts of clocks

abbrev pub one_if : Bool → ℕ
one_if b = if b then 1 else 0

pub up_to-cons : (clock x : ℕ) (xs : List ℕ) → up_to clock (x ∷ xs) ≡ one_if (nat_le x clock) + up_to clock xs
up_to-cons clock x xs = sum_by-cons (λ n. one_if (nat_le n clock)) x xs

pub up_to-snoc : (clock : ℕ) (xs : List ℕ) (y : ℕ) → up_to clock (xs ++ y ∷ []) ≡ up_to clock xs + one_if (nat_le y clock)
up_to-snoc clock xs y =
    omega (arith, sum_by-append (λ n. one_if (nat_le n clock)) xs (y ∷ []), sum_by-cons (λ n. one_if (nat_le n clock)) y (let none : List ℕ = [] in none))

-- the ends are counted by their clocks
pub ended-counted : (t clock : ℕ) (past : Past) → ended_by t clock past ≡ up_to clock (end_clocks t past)
unfolding ended_by count_moves end_clocks
ended-counted t clock [] = refl
ended-counted t clock (e ∷ past) = by_case (ends_job t e) (nat_le (now past) clock) refl (ended-counted t clock past)
  where
    by_case : (a b : Bool) → nat_le (now past) clock ≡ b → ended_by t clock past ≡ up_to clock (end_clocks t past)
        → (if a && b then ended_by t clock past + 1 else ended_by t clock past) ≡ up_to clock (if a then (end_clocks t past ++ now past ∷ []) else end_clocks t past)
    by_case true true k h = omega (arith, h, up_to-snoc clock (end_clocks t past) (now past), ap one_if k)
    by_case true false k h = omega (arith, h, up_to-snoc clock (end_clocks t past) (now past), ap one_if k)
    by_case false b k h = h

-- ---- of clocks in order

-- the first of them, as many as are counted, have come, and no later one
abbrev pub IsRising : List ℕ → Type 0
IsRising xs = IsNonDecreasing xs

pub rest-rising : (x : ℕ) (xs : List ℕ) → IsRising (x ∷ xs) → IsRising xs
rest-rising x xs h = λ i j d le low. h (suc i) (suc j) d (omega arith) (omega arith)

none-up_to : (clock x : ℕ) (xs : List ℕ) → IsRising (x ∷ xs) → clock < x → up_to clock (x ∷ xs) ≡ 0
none-up_to clock x [] h later = let no : nat_le x clock ≡ false = grind (arith, nat_tests) in omega (arith, up_to-cons clock x [], ap one_if no)
none-up_to clock x (y ∷ ys) h later =
    let no : nat_le x clock ≡ false = grind (arith, nat_tests) in
    let next : x ≤ y = h 0 1 0 (omega arith) (omega arith) in
    omega (arith, up_to-cons clock x (y ∷ ys), ap one_if no, none-up_to clock y ys (rest-rising x (y ∷ ys) h) (omega arith))

counted-come : (clock k : ℕ) (xs : List ℕ) (d : ℕ) → IsRising xs → k < up_to clock xs → get_or xs k d ≤ clock
counted-come clock k [] d h low = absurd (omega arith)
counted-come clock zero (x ∷ xs) d h low = by_case (nat_le x clock) refl
  where
    by_case : (b : Bool) → nat_le x clock ≡ b → x ≤ clock
    by_case true e = grind (arith, nat_tests, e)
    by_case false e = let later : clock < x = grind (arith, nat_tests, e) in absurd (omega (arith, low, none-up_to clock x xs h later))
counted-come clock (suc k) (x ∷ xs) d h low = counted-come clock k xs d (rest-rising x xs h) (by_case (nat_le x clock) refl)
  where
    by_case : (b : Bool) → nat_le x clock ≡ b → k < up_to clock xs
    by_case true e = omega (arith, low, up_to-cons clock x xs, ap one_if e)
    by_case false e = let later : clock < x = grind (arith, nat_tests, e) in absurd (omega (arith, low, none-up_to clock x xs h later))

later-out : (clock k : ℕ) (xs : List ℕ) (d : ℕ) → IsRising xs → up_to clock xs ≤ k → k < length xs → clock < get_or xs k d
later-out clock k [] d h high low = absurd (omega arith)
later-out clock zero (x ∷ xs) d h high low = by_case (nat_le x clock) refl
  where
    by_case : (b : Bool) → nat_le x clock ≡ b → clock < x
    by_case true e = absurd (omega (arith, high, up_to-cons clock x xs, ap one_if e))
    by_case false e = grind (arith, nat_tests, e)
later-out clock (suc k) (x ∷ xs) d h high low = by_case (nat_le x clock) refl (λ inside. later-out clock k xs d (rest-rising x xs h) inside (omega arith))
  where
    by_case : (b : Bool) → nat_le x clock ≡ b → (up_to clock xs ≤ k → clock < get_or xs k d) → clock < get_or xs k d
    by_case true e rest = rest (omega (arith, high, up_to-cons clock x xs, ap one_if e))
    by_case false e rest =
        let later : clock < x = grind (arith, nat_tests, e) in
        let after : x ≤ get_or xs k d = h 0 (suc k) d (omega arith) (omega arith) in
        omega (arith, later, after)

-- ---- arrivals come in order, and none after now

arrivals-low : (t : ℕ) (past : Past) → All (λ r. r ≤ now past) (arrivals t past)
unfolding arrivals
arrivals-low t [] = λ k d low. absurd (omega arith)
arrivals-low t (Clock tick ∷ past) = λ k d low. let before : get_or (arrivals t past) k d ≤ now past = arrivals-low t past k d low in omega arith
arrivals-low t (Acted x ∷ past) = by_case (arrives t x.act && accepted x.reply) (arrivals-low t past)
  where
    by_case : (b : Bool) → All (λ r. r ≤ now past) (arrivals t past) → All (λ r. r ≤ now past) (if b then (arrivals t past ++ now past ∷ []) else arrivals t past)
    by_case true h = All-append (λ r. r ≤ now past) (arrivals t past) (now past ∷ []) h (λ k d low. let at : k ≡ 0 = omega arith in rw at (omega arith))
    by_case false h = h

pub arrivals-rise : (t : ℕ) (past : Past) → IsRising (arrivals t past)
unfolding arrivals
arrivals-rise t [] = λ i j d le low. absurd (omega arith)
arrivals-rise t (Clock tick ∷ past) = arrivals-rise t past
arrivals-rise t (Acted x ∷ past) = by_case (arrives t x.act && accepted x.reply) (arrivals-rise t past)
  where
    by_case : (b : Bool) → IsRising (arrivals t past) → IsRising (if b then (arrivals t past ++ now past ∷ []) else arrivals t past)
    by_case true h = IsNonDecreasingBy-push (λ n. n) (arrivals t past) (now past) h (λ d some. arrivals-low t past (length (arrivals t past) - 1) d (omega arith))
    by_case false h = h

-- ---- jobs and their releases

module _ (k : Task) (positive : 0 < k.period) (arr : List ℕ) (rising : IsRising arr) where
  -- the release of job n, from 1
  abbrev release_in : Kind → ℕ → ℕ
  release_in Periodic n = k.phase + (n - 1) * k.period
  release_in Sporadic n = unwrap_or (slice_get arr (n - 1)) 0

  abbrev IsKnown : Kind → ℕ → Type 0
  IsKnown Periodic n = Unit {0}
  IsKnown Sporadic n = n ≤ length arr

  counted-known : (x : ℕ) (kind : Kind) (n : ℕ) → n ≤ released_in kind k arr x → IsKnown kind n
  counted-known x Periodic n h = tt
  counted-known x Sporadic n h = omega (arith, h, count_by-le-length (λ r. nat_le r x) arr)

  read-at : (xs : List ℕ) (i : ℕ) → i < length xs → unwrap_or (slice_get xs i) 0 ≡ get_or xs i 0
  read-at [] i h = absurd (omega arith)
  read-at (y ∷ ys) zero h = refl
  read-at (y ∷ ys) (suc i) h = read-at ys i (omega arith)

  counted-released : (x : ℕ) (kind : Kind) (n : ℕ) → 1 ≤ n → n ≤ released_in kind k arr x → release_in kind n ≤ x
  counted-released x Periodic n one h = by_phase (nat_le k.phase x) refl h
    where
      by_phase : (b : Bool) → nat_le k.phase x ≡ b → n ≤ (if b then (x - k.phase) / k.period + 1 else 0) → k.phase + (n - 1) * k.period ≤ x
      by_phase true e h =
          let low : k.phase ≤ x = grind (arith, nat_tests, e) in
          let few : n - 1 ≤ (x - k.phase) / k.period = omega arith in
          let inside : (n - 1) * k.period ≤ x - k.phase = (le-div_iff_mul-le positive).0 few in
          omega (arith, low, inside)
      by_phase false e h = absurd (omega arith)
  counted-released x Sporadic n one h =
      let inside : n - 1 < up_to x arr = omega arith in
      let there : n - 1 < length arr = omega (arith, inside, count_by-le-length (λ r. nat_le r x) arr) in
      omega (arith, read-at arr (n - 1) there, counted-come x (n - 1) arr 0 rising inside)

  uncounted-later : (x : ℕ) (kind : Kind) (n : ℕ) → IsKnown kind n → released_in kind k arr x < n → x < release_in kind n
  uncounted-later x Periodic n known h = by_phase (nat_le k.phase x) refl h
    where
      by_phase : (b : Bool) → nat_le k.phase x ≡ b → (if b then (x - k.phase) / k.period + 1 else 0) < n → x < k.phase + (n - 1) * k.period
      by_phase true e h =
          let low : k.phase ≤ x = grind (arith, nat_tests, e) in
          by_room low (nat_le ((n - 1) * k.period) (x - k.phase)) refl h
        where
          by_room : k.phase ≤ x → (c : Bool) → nat_le ((n - 1) * k.period) (x - k.phase) ≡ c → (x - k.phase) / k.period + 1 < n → x < k.phase + (n - 1) * k.period
          by_room low true r out =
              let room : (n - 1) * k.period ≤ x - k.phase = leb-true _ _ r in
              let few : n - 1 ≤ (x - k.phase) / k.period = (le-div_iff_mul-le positive).1 room in
              absurd (omega (arith, few, out))
          by_room low false r out = let over : x - k.phase < (n - 1) * k.period = leb-false _ _ r in omega (arith, over, low)
      by_phase false e h = let high : x < k.phase = grind (arith, nat_tests, e) in omega arith
  uncounted-later x Sporadic n known h =
      let outside : up_to x arr ≤ n - 1 = omega arith in
      let there : n - 1 < length arr = omega arith in
      omega (arith, read-at arr (n - 1) there, later-out x (n - 1) arr 0 rising outside there)

-- ---- tests of numbers in a row

any-none : (test : ℕ → Bool) (a m : ℕ) → ((j : ℕ) → a ≤ j → j < a + m → test j ≡ false) → list_any test (numbers_from a m) ≡ false
any-none test a zero h = refl
any-none test a (suc m) h = rw (h a (omega arith) (omega arith), any-none test (suc a) m (λ j low high. h j (omega arith) (omega arith))) refl

greater : (e a m : ℕ) → nat_lt e a || (nat_lt 0 m && nat_lt e (suc a + m - 1)) ≡ nat_lt 0 (suc m) && nat_lt e (a + suc m - 1)
greater e a m = grind (arith, nat_tests)

-- the greatest decides
any-greatest : (test : ℕ → Bool) (e a m : ℕ) → ((j : ℕ) → a ≤ j → j < a + m → test j ≡ nat_lt e j) → list_any test (numbers_from a m) ≡ nat_lt 0 m && nat_lt e (a + m - 1)
any-greatest test e a zero h = let no : nat_lt 0 0 ≡ false = refl in rw no refl
any-greatest test e a (suc m) h = rw (h a (omega arith) (omega arith), any-greatest test e (suc a) m (λ j low high. h j (omega arith) (omega arith))) (greater e a m)

greatest-due : (before due e next clock : ℕ) → next ≤ clock → nat_lt 0 (due - before) && nat_lt e (before + 1 + (due - before) - 1) ≡ nat_lt before due && (nat_lt e due && nat_le next clock)
greatest-due before due e next clock h = by_case (nat_lt before due) refl
  where
    by_case : (b : Bool) → nat_lt before due ≡ b → nat_lt 0 (due - before) && nat_lt e (before + 1 + (due - before) - 1) ≡ b && (nat_lt e due && nat_le next clock)
    by_case true k =
        let low : before < due = ltb-true _ _ k in
        let some : nat_lt 0 (due - before) ≡ true = grind (arith, nat_tests, low) in
        let last : before + 1 + (due - before) - 1 ≡ due = omega (arith, low) in
        let over : nat_le next clock ≡ true = grind (arith, nat_tests, h) in
        rw (some, last, over) (sym (and_true (nat_lt e due)))
    by_case false k =
        let high : due ≤ before = ltb-false _ _ k in
        let none : nat_lt 0 (due - before) ≡ false = grind (arith, nat_tests, high) in
        rw none refl

none-due : (before due e next clock : ℕ) → clock < next → false ≡ nat_lt before due && (nat_lt e due && nat_le next clock)
none-due before due e next clock h =
    let not_over : nat_le next clock ≡ false = grind (arith, nat_tests, h) in
    sym (ap (λ b. nat_lt before due && (nat_lt e due && b)) not_over ∙ ap (λ b. nat_lt before due && b) (and_false (nat_lt e due)) ∙ and_false (nat_lt before due))

-- ---- the definitions, by arrivals and ends

module _ (g : Group) (t : ℕ) (past : Past) (positive : 0 < (task g t).period) where
  abbrev k : Task
  k = task g t

  abbrev arr : List ℕ
  arr = arrivals t past

  abbrev ends : List ℕ
  ends = end_clocks t past

  released-at : (kind : Kind) (clock : ℕ) → released_at g kind t clock past ≡ released_in kind k arr clock
  unfolding released_at
  released-at Periodic clock = refl
  released-at Sporadic clock = refl

  pub released-is : (clock : ℕ) → released_by g t clock past ≡ released_in k.kind k arr clock
  unfolding released_by
  released-is clock = released-at k.kind clock

  before-is : (clock : ℕ) → released_before g t clock past ≡ released_before_in k arr clock
  before-is zero = refl
  before-is (suc clock) = released-is clock

  due-is : (before : ℕ) → due_before g t before past ≡ due_in k arr (now past) before
  unfolding due_before
  due-is before = ap (λ n. if nat_lt k.rel_deadline before then n else 0) (released-is (min (before - (k.rel_deadline + 1)) (now past)))

  deadline-by : (kind : Kind) (j : ℕ) → unwrap_or (release_by g kind t (j - 1) past) 0 ≡ release_in k positive arr (arrivals-rise t past) kind j
  unfolding release_by
  deadline-by Periodic j = refl
  deadline-by Sporadic j = refl

  abbrev deadline : ℕ → ℕ
  deadline j = release_in k positive arr (arrivals-rise t past) k.kind j + k.rel_deadline

  deadline-is : (j : ℕ) → deadline_of g t j past ≡ deadline j
  unfolding deadline_of release_of
  deadline-is j = ap (λ n. n + k.rel_deadline) (deadline-by k.kind j)

  -- the jobs that are due before a clock have their deadline before it
  due-early : (before j : ℕ) → 1 ≤ j → j ≤ due_in k arr (now past) before → (deadline j < before) × (release_in k positive arr (arrivals-rise t past) k.kind j ≤ now past) × IsKnown k positive arr (arrivals-rise t past) k.kind j
  due-early before j one h = by_case (nat_lt k.rel_deadline before) refl h
    where
      by_case : (b : Bool) → nat_lt k.rel_deadline before ≡ b → j ≤ (if b then released_in k.kind k arr (min (before - (k.rel_deadline + 1)) (now past)) else 0)
          → (deadline j < before) × (release_in k positive arr (arrivals-rise t past) k.kind j ≤ now past) × IsKnown k positive arr (arrivals-rise t past) k.kind j
      by_case true e h =
          let low : k.rel_deadline < before = ltb-true _ _ e in
          let x : ℕ = min (before - (k.rel_deadline + 1)) (now past) in
          let come = counted-released k positive arr (arrivals-rise t past) x k.kind j one h in
          (omega (arith, low, come), omega (arith, come), counted-known k positive arr (arrivals-rise t past) x k.kind j h)
      by_case false e h = absurd (omega arith)

  -- and the others of those that are released by now have it later
  due-late : (before j : ℕ) → due_in k arr (now past) before < j → release_in k positive arr (arrivals-rise t past) k.kind j ≤ now past → IsKnown k positive arr (arrivals-rise t past) k.kind j → before ≤ deadline j
  due-late before j h come known = by_case (nat_lt k.rel_deadline before) refl h
    where
      by_case : (b : Bool) → nat_lt k.rel_deadline before ≡ b → (if b then released_in k.kind k arr (min (before - (k.rel_deadline + 1)) (now past)) else 0) < j → before ≤ deadline j
      by_case true e h =
          let low : k.rel_deadline < before = ltb-true _ _ e in
          let x : ℕ = min (before - (k.rel_deadline + 1)) (now past) in
          let later = uncounted-later k positive arr (arrivals-rise t past) x k.kind j known h in
          omega (arith, low, later, come)
      by_case false e h = let high : before ≤ k.rel_deadline = ltb-false _ _ e in omega (arith, high)

  -- ---- a column

  module _ (e : Edges) (timed : IsTimed t past e) where
    abbrev before : ℕ
    before = due_in k arr (now past) e.high

    abbrev due : ℕ
    due = due_in k arr (now past) e.next

    inside : (j : ℕ) → before < j → j ≤ due → (e.high ≤ deadline j) × (deadline j < e.next)
    inside j low high =
        let early = due-early e.next j (omega arith) high in
        (due-late e.high j low early.1 early.2, early.0)

    job-is : (j : ℕ) → before < j → j ≤ due → is_missed g t past j ≡ nat_lt (up_to e.high ends) j && nat_lt (deadline j) (now past)
    job-is j low high =
        let at = inside j low high in
        let counted : ended_by t (deadline_of g t j past) past ≡ up_to e.high ends = ap (λ n. ended_by t n past) (deadline-is j) ∙ ended-counted t (deadline j) past ∙ timed.quiet (deadline j) at.0 at.1 in
        λ i. nat_lt (counted i) j && nat_lt (deadline-is j i) (now past)

    missed-is : list_any (is_missed g t past) (numbers_from (before + 1) (due - before)) ≡ nat_lt before due && (nat_lt (up_to e.high ends) due && nat_le e.next (now past))
    missed-is = by_case timed.follows
      where
        by_case : (e.next ≤ now past) ⊎ ((e.next ≡ suc e.high) × (now past ≤ e.high)) → list_any (is_missed g t past) (numbers_from (before + 1) (due - before)) ≡ nat_lt before due && (nat_lt (up_to e.high ends) due && nat_le e.next (now past))
        by_case (inl begun) =
            any-greatest (is_missed g t past) (up_to e.high ends) (before + 1) (due - before)
            (λ j low high.
            let at = inside j (omega arith) (omega arith) in
            let over : nat_lt (deadline j) (now past) ≡ true = grind (arith, nat_tests, at.1, begun) in
            job-is j (omega arith) (omega arith) ∙ rw over (and_true (nat_lt (up_to e.high ends) j)))
            ∙ greatest-due before due (up_to e.high ends) e.next (now past) begun
        by_case (inr last) =
            any-none (is_missed g t past) (before + 1) (due - before)
            (λ j low high.
            let at = inside j (omega arith) (omega arith) in
            let not_over : nat_lt (deadline j) (now past) ≡ false = grind (arith, nat_tests, at.0, last.1) in
            job-is j (omega arith) (omega arith) ∙ rw not_over (and_false (nat_lt (up_to e.high ends) j)))
            ∙ none-due before due (up_to e.high ends) e.next (now past) (omega (arith, last.0, last.1))

pub marks-shown : (g : Group) (t : ℕ) (past : Past) (positive : 0 < (task g t).period) (c : Column) → IsTimed t past (edges_of c)
    → marks g past t c ≡ marks_in (task g t) (arrivals t past) (end_clocks t past) (now past) (edges_of c) (list_any (λ (m : Moment). is t m.act.ended) c.acts)
unfolding marks
marks-shown g t past positive c timed = λ i. record {
  release = nat_lt (before-is g t past positive c.first i) (released-is g t past positive c.high i);
  deadline = nat_lt (due-is g t past positive c.high i) (due-is g t past positive c.next i);
  missed = (missed-due ∙ missed-is g t past positive (edges_of c) timed) i;
  end = list_any (λ (m : Moment). is t m.act.ended) c.acts;
}
  where
    missed-due : list_any (is_missed g t past) (numbers_from (due_before g t c.high past + 1) (due_before g t c.next past - due_before g t c.high past))
        ≡ list_any (is_missed g t past) (numbers_from (due_in (task g t) (arrivals t past) (now past) c.high + 1) (due_in (task g t) (arrivals t past) (now past) c.next - due_in (task g t) (arrivals t past) (now past) c.high))
    missed-due = λ i. list_any (is_missed g t past) (numbers_from (due-is g t past positive c.high i + 1) (due-is g t past positive c.next i - due-is g t past positive c.high i))
