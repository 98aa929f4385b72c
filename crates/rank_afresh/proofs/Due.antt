-- The tasks whose moment has come are taken out, one after the other.
use Rattle.std.proofs.Common.{◌≡◌, ◌≢◌, ℕ, zero, suc, ◌+◌, ◌-◌, ◌<◌, ◌≤◌, Bool, true, false, ◌||◌, List, [], ◌∷◌, ◌++◌, length, length-set, set, eqb-true, refl, sym, ap, ◌∙◌, arith, get_or-set_same, get_or-set_other}
use Rattle.std.specs.Prelude.{◌==◌, Option, None, Some, filter, nat_lt, if◌then◌else◌}
use Rattle.std.proofs.lemmas.Bool.Decides.{nat_tests}
use Rattle.std.proofs.lemmas.Bool.{eqb-false}
use Rattle.std.proofs.lemmas.List.{append-nil, map-append}
use Rattle.rt_base.specs.TaskNos.{numbers}
use Rattle.rt_base.specs.declared.TaskNo.{TaskNo}
use Rattle.rt_rules.specs.Numbers.{has, numbers_from}
use Rattle.rt_rules.proofs.BoolLaws.{or_true}
use Rattle.rt_rules.proofs.MemberLaws.{has-append}
use Rattle.rt_model.specs.Releases.{has_come}
use Rattle.release_queue.specs.Timers.{tick_at}
use Rattle.rank_afresh.specs.Moments.{AreTakenOut, IsLeast, due_in}
use Rattle.rank_afresh.proofs.SetLists.{filter-next}

-- ---- one moment is new

abbrev at-set-same : (ticks : List (Option ℕ)) (t : ℕ) (o : Option ℕ) → t < length ticks → tick_at (set ticks t o) t ≡ o
at-set-same ticks t o low = get_or-set_same ticks t o None low

beyond : (ticks : List (Option ℕ)) (t : ℕ) → length ticks ≤ t → tick_at ticks t ≡ None
beyond [] t h = refl
beyond (x ∷ xs) zero h = absurd (omega arith)
beyond (x ∷ xs) (suc t) h = beyond xs t (omega arith)

pub least-put : (next next' : ℕ) (ticks : List (Option ℕ)) (t : ℕ) (o : Option ℕ) → t < length ticks → IsLeast next ticks → next' ≤ next → ((n : ℕ) → o ≡ Some n → next' ≤ n)
    → IsLeast next' (set ticks t o)
least-put next next' ticks t o low least less first = λ u n some h. by_case u n some h (u == t) refl
  where
    by_case : (u n : ℕ) → 1 ≤ u → tick_at (set ticks t o) u ≡ Some n → (b : Bool) → u == t ≡ b → next' ≤ n
    by_case u n some h true e = let same : u ≡ t = eqb-true u t e in first n (sym (at-set-same ticks t o low) ∙ ap (tick_at (set ticks t o)) (sym same) ∙ h)
    by_case u n some h false e =
        let was : tick_at ticks u ≡ Some n = sym (get_or-set_other ticks t u o None (eqb-false u t e)) ∙ h in
        let l : next ≤ n = least u n some was in
        omega (arith, l, less)

-- ---- none is due

not-yet : (clock next : ℕ) (o : Option ℕ) → clock < next → ((n : ℕ) → o ≡ Some n → next ≤ n) → has_come clock o ≡ false
not-yet clock next None low least = refl
not-yet clock next (Some n) low least = let l : next ≤ n = least n refl in grind (arith, nat_tests, l, low)

pub none-due : (clock next : ℕ) (ticks : List (Option ℕ)) → clock < next → IsLeast next ticks → due_in clock ticks ≡ []
none-due clock next ticks low least = from 1 (length ticks - 1) (omega arith)
  where
    from : (a n : ℕ) → 1 ≤ a → filter (λ t. has_come clock (tick_at ticks t)) (numbers_from a n) ≡ []
    from a zero some = refl
    from a (suc n) some = let here : has_come clock (tick_at ticks a) ≡ false = not-yet clock next (tick_at ticks a) low (λ m h. least a m some h) in rw here (from (suc a) n (omega arith))

pub none-taken : (ticks : List (Option ℕ)) → AreTakenOut [] ticks ticks
none-taken ticks = record { count_same = refl; moments_are = λ t. refl }

-- ---- the tasks before a number were gone through

pub record AreTaken (clock : ℕ) (old : List (Option ℕ)) (i : ℕ) (due : List TaskNo) (now : List (Option ℕ)) (next : ℕ) : Type 0 where
  pub count_same : length now ≡ length old
  pub due_are : numbers due ≡ filter (λ t. has_come clock (tick_at old t)) (numbers_from 1 (i - 1))
  pub taken : (t : ℕ) → t < i → tick_at now t ≡ (if has t (numbers due) then None else tick_at old t)
  pub rest : (t : ℕ) → i ≤ t → tick_at now t ≡ tick_at old t
  pub least : (t n : ℕ) → 1 ≤ t → t < i → tick_at now t ≡ Some n → next ≤ n

pub taken-first : (clock : ℕ) (old : List (Option ℕ)) (due : List TaskNo) (next : ℕ) → due ≡ [] → AreTaken clock old 1 due old next
taken-first clock old due next none = record {
  count_same = refl;
  due_are = ap numbers none;
  taken = λ t low. rw none refl;
  rest = λ t high. refl;
  least = λ t n some low h. absurd (omega (arith, some, low));
}

module _ (clock : ℕ) (old : List (Option ℕ)) (i : ℕ) (due : List TaskNo) (now : List (Option ℕ)) (next : ℕ) (some : 1 ≤ i) (inside : i < length now) (so_far : AreTaken clock old i due now next) where
  here : tick_at now i ≡ tick_at old i
  here = so_far.rest i (omega arith)

  listed : (b : Bool) → has_come clock (tick_at old i) ≡ b
      → filter (λ t. has_come clock (tick_at old t)) (numbers_from 1 (i + 1 - 1)) ≡ filter (λ t. has_come clock (tick_at old t)) (numbers_from 1 (i - 1)) ++ (if b then i ∷ [] else [])
  listed b come =
      let position : i - 1 + 1 ≡ i = omega (arith, some) in
      let all : i + 1 - 1 ≡ i - 1 + 1 = omega (arith, some) in
      rw all (filter-next (λ t. has_come clock (tick_at old t)) (i - 1) b (rw position come) ∙ rw position refl)

  pub taken-more : (due' : List TaskNo) (t : TaskNo) → t.0 ≡ i → has_come clock (tick_at now i) ≡ true → due' ≡ due ++ t ∷ [] → AreTaken clock old (i + 1) due' (set now i None) next
  taken-more due' t is come more =
      let ts : List ℕ = numbers due in
      let more_numbers : numbers due' ≡ ts ++ i ∷ [] = ap numbers more ∙ map-append (λ (u : TaskNo). u.0) due (t ∷ []) ∙ ap (λ n. ts ++ n ∷ []) is in
      record {
        count_same = length-set now i None ∙ so_far.count_same;
        due_are = more_numbers ∙ ap (λ xs. xs ++ i ∷ []) so_far.due_are ∙ sym (listed true (ap (has_come clock) (sym here) ∙ come));
        taken = λ u low. rw (more_numbers, has-append u ts (i ∷ [])) (by_case u low (u == i) refl);
        rest = λ u high. get_or-set_other now i u None None (λ e. absurd (omega (arith, high, e))) ∙ so_far.rest u (omega (arith, high));
        least = λ u n first low h. least_case u n first low h (u == i) refl;
      }
    where
      by_case : (u : ℕ) → u < i + 1 → (b : Bool) → u == i ≡ b → tick_at (set now i None) u ≡ (if has u (numbers due) || (u == i || false) then None else tick_at old u)
      by_case u low true e =
          let same : u ≡ i = eqb-true u i e in
          ap (tick_at (set now i None)) same ∙ at-set-same now i None inside ∙ rw (e, or_true (has u (numbers due))) refl
      by_case u low false e =
          let apart = eqb-false u i e in
          get_or-set_other now i u None None apart ∙ so_far.taken u (let l : u ≢ i = apart in omega (arith, low, l)) ∙ rw e (by_member (has u (numbers due)))
        where
          by_member : (d : Bool) → (if d then None else tick_at old u) ≡ (if d || (false || false) then None else tick_at old u)
          by_member true = refl
          by_member false = refl

      least_case : (u n : ℕ) → 1 ≤ u → u < i + 1 → tick_at (set now i None) u ≡ Some n → (b : Bool) → u == i ≡ b → next ≤ n
      least_case u n first low h true e =
          let same : u ≡ i = eqb-true u i e in
          let none : tick_at (set now i None) u ≡ None = ap (tick_at (set now i None)) same ∙ at-set-same now i None inside in
          cc
      least_case u n first low h false e =
          let apart = eqb-false u i e in
          so_far.least u n first (let l : u ≢ i = apart in omega (arith, low, l)) (sym (get_or-set_other now i u None None apart) ∙ h)

  pub taken-less : (next' : ℕ) → has_come clock (tick_at now i) ≡ false → next' ≤ next → ((n : ℕ) → tick_at now i ≡ Some n → next' ≤ n) → AreTaken clock old (i + 1) due now next'
  taken-less next' come less first = record {
    count_same = so_far.count_same;
    due_are = so_far.due_are ∙ sym (listed false (ap (has_come clock) (sym here) ∙ come) ∙ append-nil (filter (λ t. has_come clock (tick_at old t)) (numbers_from 1 (i - 1))));
    taken = λ u low. by_case u low (u == i) refl;
    rest = λ u high. so_far.rest u (omega (arith, high));
    least = λ u n some_u low h. least_case u n some_u low h (u == i) refl;
  }
    where
      out : has i (numbers due) ≡ false
      out = rw so_far.due_are (not-in 1 (i - 1) (omega (arith, some)))
        where
          not-in : (a n : ℕ) → a + n ≤ i → has i (filter (λ t. has_come clock (tick_at old t)) (numbers_from a n)) ≡ false
          not-in a zero h = refl
          not-in a (suc n) h = one (has_come clock (tick_at old a)) (not-in (suc a) n (omega (arith, h)))
            where
              one : (b : Bool) → has i (filter (λ t. has_come clock (tick_at old t)) (numbers_from (suc a) n)) ≡ false
                  → has i (if b then a ∷ filter (λ t. has_come clock (tick_at old t)) (numbers_from (suc a) n) else filter (λ t. has_come clock (tick_at old t)) (numbers_from (suc a) n)) ≡ false
              one true r = let e : i == a ≡ false = grind (arith, nat_tests, h) in rw (e, r) refl
              one false r = r

      by_case : (u : ℕ) → u < i + 1 → (b : Bool) → u == i ≡ b → tick_at now u ≡ (if has u (numbers due) then None else tick_at old u)
      by_case u low true e = let same : u ≡ i = eqb-true u i e in rw (same, out) here
      by_case u low false e = so_far.taken u (let l : u ≢ i = eqb-false u i e in omega (arith, low, l))

      least_case : (u n : ℕ) → 1 ≤ u → u < i + 1 → tick_at now u ≡ Some n → (b : Bool) → u == i ≡ b → next' ≤ n
      least_case u n some_u low h true e = let same : u ≡ i = eqb-true u i e in first n (ap (tick_at now) (sym same) ∙ h)
      least_case u n some_u low h false e =
          let l : u ≢ i = eqb-false u i e in
          let r : next ≤ n = so_far.least u n some_u (omega (arith, low, l)) h in
          omega (arith, r, less)

-- once all were
module _ (clock : ℕ) (old : List (Option ℕ)) (i : ℕ) (due : List TaskNo) (now : List (Option ℕ)) (next : ℕ) (so_far : AreTaken clock old i due now next) (all : i ≡ length old) where
  pub due-all : numbers due ≡ due_in clock old
  due-all = so_far.due_are ∙ ap (λ n. filter (λ t. has_come clock (tick_at old t)) (numbers_from 1 (n - 1))) all

  outside : (t : ℕ) → nat_lt t i ≡ false → (tick_at now t ≡ None) × (tick_at old t ≡ None)
  outside t e =
      let high : i ≤ t = grind (arith, nat_tests, e) in
      let c = so_far.count_same in
      (beyond now t (omega (arith, high, all, c)), beyond old t (omega (arith, high, all)))

  pub taken-all : AreTakenOut (due_in clock old) old now
  taken-all = record { count_same = so_far.count_same; moments_are = λ t. by_case t (nat_lt t i) refl }
    where
      neither-way : (b : Bool) (o : Option ℕ) → o ≡ None → None ≡ (if b then None else o)
      neither-way true o e = refl
      neither-way false o e = sym e

      by_case : (t : ℕ) (b : Bool) → nat_lt t i ≡ b → tick_at now t ≡ (if has t (due_in clock old) then None else tick_at old t)
      by_case t true e = so_far.taken t (grind (arith, nat_tests, e)) ∙ ap (λ ts. if has t ts then None else tick_at old t) due-all
      by_case t false e = (outside t e).0 ∙ neither-way (has t (due_in clock old)) (tick_at old t) (outside t e).1

  pub least-all : IsLeast next now
  least-all = λ t n some h. by_case t n some h (nat_lt t i) refl
    where
      by_case : (t n : ℕ) → 1 ≤ t → tick_at now t ≡ Some n → (b : Bool) → nat_lt t i ≡ b → next ≤ n
      by_case t n some h true e = so_far.least t n some (grind (arith, nat_tests, e)) h
      by_case t n some h false e = let none : tick_at now t ≡ None = (outside t e).0 in cc
