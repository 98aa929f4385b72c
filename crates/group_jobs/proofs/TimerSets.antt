-- Timers of tasks, whatever they wait for.
use Rattle.std.proofs.Common.{◌++◌, append_assoc, append-nil, subst, ◌≡◌, ◌≢◌, ℕ, zero, suc, ◌<◌, ◌≤◌, Bool, true, false, ◌&&◌, ◌||◌}
use Rattle.std.proofs.Common.{List, [], ◌∷◌, length, set}
use Rattle.std.proofs.Common.{eqb-true, refl, sym, ap, ◌∙◌, arith, length-set, get_or-set_same, get_or-set_other}
use Rattle.std.specs.Prelude.{Option, None, Some, if◌then◌else◌, ◌==◌}
use Rattle.std.proofs.lemmas.Bool.Decides.{nat_tests}
use Rattle.rt_rules.specs.Distinct.{IsDistinct}
use Rattle.rt_rules.specs.Numbers.{has}
use Rattle.rt_rules.proofs.BoolLaws.{clash, or_true}
use Rattle.rt_rules.proofs.MemberLaws.{equal_self}
use Rattle.rt_model.specs.Releases.{has_come}
use Rattle.release_queue.specs.Timers.{tick_at}
use Rattle.group_jobs.specs.Timers.{TimersAreRenewed, AreDue, ticks_without, DueAreTakenOut, DueOneByOne}

-- ---- a list with one place set

apart : (t u : ℕ) → t == u ≡ false → t ≢ u
apart t u e same = let m : u == u ≡ false = rw same at e in clash _ (equal_self u) m

pub tick-set : (ticks : List (Option ℕ)) (u t : ℕ) (o : Option ℕ) → u < length ticks
    → tick_at (set ticks u o) t ≡ (if t == u then o else tick_at ticks t)
tick-set ticks u t o inside = by_case (t == u) refl
  where
    by_case : (b : Bool) → t == u ≡ b → tick_at (set ticks u o) t ≡ (if b then o else tick_at ticks t)
    by_case true e = let s : t ≡ u = eqb-true t u e in rw s (get_or-set_same ticks u o None inside)
    by_case false e = get_or-set_other ticks u t o None (apart t u e)

inside-some : (ticks : List (Option ℕ)) (t n : ℕ) → tick_at ticks t ≡ Some n → t < length ticks
inside-some [] t n h = cc
inside-some (x ∷ xs) zero n h = omega arith
inside-some (x ∷ xs) (suc t) n h = let r : t < length xs = inside-some xs t n h in omega (arith, r)

-- ---- renewing

pub timers_are_renewed : TimersAreRenewed
timers_are_renewed [] ts timer timer' ticks inside same h = record { room = h.room; armed = λ t. h.armed t ∙ by_case t (has t ts) refl }
  where
    by_case : (t : ℕ) (b : Bool) → has t ts ≡ b → (if b then timer t else None) ≡ (if b then timer' t else None)
    by_case t true e = same t e refl
    by_case t false e = refl
timers_are_renewed (u ∷ touched) ts timer timer' ticks inside same h =
    timers_are_renewed touched ts (λ t. if t == u then timer' u else timer t) timer' (set ticks u (timer' u))
    (λ t k. inside t (rw k (or_true (t == u))))
    same_then
    (record { room = room_then; armed = armed_then })
  where
    there : u < length ticks
    there = h.room u (inside u (rw (equal_self u)))

    same_then : (t : ℕ) → has t ts ≡ true → has t touched ≡ false → (if t == u then timer' u else timer t) ≡ timer' t
    same_then t k m = by_case (t == u) refl
      where
        by_case : (b : Bool) → t == u ≡ b → (if b then timer' u else timer t) ≡ timer' t
        by_case true e = ap timer' (sym (eqb-true t u e))
        by_case false e = same t k (rw (e, m))

    room_then : (t : ℕ) → has t ts ≡ true → t < length (set ticks u (timer' u))
    room_then t k = let n : length (set ticks u (timer' u)) ≡ length ticks = length-set _ _ _ in let r : t < length ticks = h.room t k in
        omega (arith, n, r)

    armed_then : (t : ℕ) → tick_at (set ticks u (timer' u)) t ≡ (if has t ts then (if t == u then timer' u else timer t) else None)
    armed_then t = tick-set ticks u t (timer' u) there ∙ by_case (t == u) refl
      where
        by_case : (b : Bool) → t == u ≡ b
            → (if b then timer' u else tick_at ticks t) ≡ (if has t ts then (if b then timer' u else timer t) else None)
        by_case true e = let s : t ≡ u = eqb-true t u e in let m : has t ts ≡ true = rw s (inside u (rw (equal_self u))) in rw m
        by_case false e = h.armed t

-- ---- those that are due

not-come : (clock : ℕ) (o : Option ℕ) → ((n : ℕ) → o ≡ Some n → clock < n) → has_come clock o ≡ false
not-come clock None h = refl
not-come clock (Some n) h = let l : clock < n = h n refl in grind (arith, nat_tests, l)

come : (clock n : ℕ) (o : Option ℕ) → o ≡ Some n → n ≤ clock → has_come clock o ≡ true
come clock n o e h = rw e (grind (arith, nat_tests, h))

-- a task is taken out where its moment has come
pub due-has : (clock : ℕ) (us : List ℕ) (ticks : List (Option ℕ)) → AreDue clock ticks us → (t : ℕ)
    → has t us ≡ has_come clock (tick_at ticks t)
due-has clock [] ticks h t = sym (not-come clock (tick_at ticks t) (λ n e. h t n e))
due-has clock (u ∷ us) ticks h t = by_case (t == u) refl (due-has clock us (set ticks u None) h.1 t)
  where
    inside : u < length ticks
    inside = inside-some ticks u h.0.tick h.0.armed

    by_case : (b : Bool) → t == u ≡ b → has t us ≡ has_come clock (tick_at (set ticks u None) t)
        → b || has t us ≡ has_come clock (tick_at ticks t)
    by_case true e rest = let s : t ≡ u = eqb-true t u e in rw s (sym (come clock h.0.tick (tick_at ticks u) h.0.armed h.0.due))
    by_case false e rest = rest ∙ ap (has_come clock) (get_or-set_other ticks u t None None (apart t u e))

pub due-once : (clock : ℕ) (us : List ℕ) (ticks : List (Option ℕ)) → AreDue clock ticks us → IsDistinct us
due-once clock [] ticks h = tt
due-once clock (u ∷ us) ticks h =
    let inside : u < length ticks = inside-some ticks u h.0.tick h.0.armed in (
      due-has clock us (set ticks u None) h.1 u
          ∙ ap (has_come clock) (get_or-set_same ticks u None None inside),
      due-once clock us (set ticks u None) h.1,
    )

-- what is left
pub tick-without : (us : List ℕ) (ticks : List (Option ℕ)) (t : ℕ) → ((u : ℕ) → has u us ≡ true → u < length ticks)
    → tick_at (ticks_without us ticks) t ≡ (if has t us then None else tick_at ticks t)
tick-without [] ticks t room = refl
tick-without (u ∷ us) ticks t room = tick-without us (set ticks u None) t room_then ∙ by_cases (has t us) (t == u) refl
  where
    there : u < length ticks
    there = room u (rw (equal_self u))

    room_then : (v : ℕ) → has v us ≡ true → v < length (set ticks u None)
    room_then v k = let n : length (set ticks u None) ≡ length ticks = length-set _ _ _ in let r : v < length ticks =
        room v (rw k (or_true (v == u))) in omega (arith, n, r)

    by_cases : (b c : Bool) → t == u ≡ c → (if b then None else tick_at (set ticks u None) t) ≡ (if c || b then None else tick_at ticks t)
    by_cases true true e = refl
    by_cases true false e = refl
    by_cases false c e = tick-set ticks u t None there ∙ ap (λ x. if x then None else tick_at ticks t) e ∙ both-ways c
      where
        both-ways : (c : Bool) → (if c then None else tick_at ticks t) ≡ (if c || false then None else tick_at ticks t)
        both-ways true = refl
        both-ways false = refl

pub length-without : (us : List ℕ) (ticks : List (Option ℕ)) → length (ticks_without us ticks) ≡ length ticks
length-without [] ticks = refl
length-without (u ∷ us) ticks = length-without us (set ticks u None) ∙ length-set _ _ _

come-if : (clock : ℕ) (b : Bool) (o : Option ℕ) → has_come clock (if b then o else None) ≡ b && has_come clock o
come-if clock true o = refl
come-if clock false o = refl

pub due_are_taken_out : DueAreTakenOut
due_are_taken_out clock ts timer ticks us h d = record {
  once = due-once clock us ticks d;
  due = due;
  others = record {
    room = λ t k. let n : length (ticks_without us ticks) ≡ length ticks = length-without us ticks in
        let r : t < length ticks = h.room t k in omega (arith, n, r);
    armed = armed;
  };
}
  where
    due : (t : ℕ) → has t us ≡ has t ts && has_come clock (timer t)
    due t = due-has clock us ticks d t ∙ ap (has_come clock) (h.armed t) ∙ come-if clock (has t ts) (timer t)

    come-some : (o : Option ℕ) → has_come clock o ≡ true → (n : ℕ) × (o ≡ Some n)
    come-some None k = cc
    come-some (Some n) k = (n, refl)

    inside : (u : ℕ) → has u us ≡ true → u < length ticks
    inside u k = let s = come-some (tick_at ticks u) (sym (due-has clock us ticks d u) ∙ k) in inside-some ticks u s.0 s.1

    armed : (t : ℕ) → tick_at (ticks_without us ticks) t ≡ (if has t ts then (if has t us then None else timer t) else None)
    armed t = tick-without us ticks t inside ∙ ap (λ o. if has t us then None else o) (h.armed t) ∙ by_cases (has t us) (has t ts)
      where
        by_cases : (b c : Bool)
            → (if b then None else (if c then timer t else None)) ≡ (if c then (if b then None else timer t) else None)
        by_cases true true = refl
        by_cases true false = refl
        by_cases false true = refl
        by_cases false false = refl

-- ---- taking them out one by one

without-append : (us : List ℕ) (u : ℕ) (ticks : List (Option ℕ))
    → ticks_without (us ++ u ∷ []) ticks ≡ set (ticks_without us ticks) u None
without-append [] u ticks = refl
without-append (v ∷ us) u ticks = without-append us u (set ticks v None)

pub due_one_by_one : DueOneByOne
due_one_by_one clock ticks = record {
  at_first = record { goes_on = λ vs h. h; left_is = refl };
  one_more = λ us u left so_far next. record {
    goes_on = λ vs h. subst (λ xs. AreDue clock ticks xs) (sym (append_assoc us (u ∷ []) vs)) (so_far.goes_on (u ∷ vs) (next, h));
    left_is = ap (λ xs. set xs u None) so_far.left_is ∙ sym (without-append us u ticks);
  };
  at_last = λ us left so_far nothing. subst (λ xs. AreDue clock ticks xs) (append-nil us) (so_far.goes_on [] nothing);
}
