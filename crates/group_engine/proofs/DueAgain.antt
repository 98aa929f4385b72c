-- Tasks that are due are taken out one by one, and are armed anew for moments after the clock.
use Rattle.std.proofs.Common.{◌≡◌, ℕ, zero, suc, ◌<◌, ◌≤◌, min, Bool, true, false, cond, ◌⊎◌, inl, inr, refl, sym, ap, ◌∙◌, arith}
use Rattle.std.proofs.Common.{List, [], ◌∷◌, length, set, count_by, eqb-true, get_or-set_other}
use Rattle.std.specs.Prelude.{◌==◌, Option, None, Some, if◌then◌else◌, nat_lt}
use Rattle.std.proofs.lemmas.Bool.{eqb-false}
use Rattle.std.proofs.lemmas.Bool.Decides.{nat_tests}
use Rattle.std.proofs.lemmas.List.Sums.{sum_by-set}
use Rattle.rt_model.specs.Releases.{has_come}
use Rattle.rt_task.specs.declared.Task.{Task}
use Rattle.release_queue.specs.Timers.{IsNextDue, tick_at}
use Rattle.group_jobs.specs.Facts.{JobFacts}
use Rattle.group_jobs.specs.Timers.{AreDue, first_of_two, if_later, timer}
use Rattle.group_jobs.specs.Words.{release_of}

-- ---- moments after the clock

-- the moment, if there is one, is after the clock
abbrev pub IsLater : ℕ → Option ℕ → Type 0
IsLater clock o = (n : ℕ) → o ≡ Some n → clock < n

later-if : (clock : ℕ) (o : Option ℕ) → IsLater clock (if_later clock o)
later-if clock None = λ n e. cc
later-if clock (Some m) = by_case (nat_lt clock m) refl
  where
    by_case : (b : Bool) → nat_lt clock m ≡ b → IsLater clock (if b then Some m else None)
    by_case true lt = λ n e.
        let here : m ≡ n = cc in let low : clock < m = grind (arith, nat_tests, lt) in omega (arith, here, low)
    by_case false lt = λ n e. cc

later-first : (clock : ℕ) (a b : Option ℕ) → IsLater clock a → IsLater clock b → IsLater clock (first_of_two a b)
later-first clock None b h k = k
later-first clock (Some m) None h k = h
later-first clock (Some m) (Some n) h k = λ x e. let first : min m n ≡ x = cc in omega (arith, first, h m refl, k n refl)

-- what a task waits for
pub later-timer : (clock : ℕ) (task : Task) (job : JobFacts) → IsLater clock (timer clock task job)
later-timer clock task job =
    let release = later-if clock (release_of task job) in
    let wakes = later-if clock (Some job.wakes) in
    later-first clock (if_later clock (release_of task job)) (if_later clock (Some job.wakes)) release wakes

-- ---- timers without some that are for later

-- at this task the second timers are the same, or none where the first are for later
abbrev LacksAt : ℕ → List (Option ℕ) → List (Option ℕ) → ℕ → Type 0
LacksAt clock ticks left t = (tick_at left t ≡ tick_at ticks t) ⊎ ((tick_at left t ≡ None) × IsLater clock (tick_at ticks t))

taken-none : (ticks : List (Option ℕ)) (t : ℕ) → tick_at (set ticks t None) t ≡ None
taken-none [] t = refl
taken-none (x ∷ xs) zero = refl
taken-none (x ∷ xs) (suc t) = taken-none xs t

later-set : (clock : ℕ) (ticks : List (Option ℕ)) (t : ℕ) (o : Option ℕ) → IsLater clock o → IsLater clock (tick_at (set ticks t o) t)
later-set clock [] t o h = λ n e. cc
later-set clock (x ∷ xs) zero o h = h
later-set clock (x ∷ xs) (suc t) o h = later-set clock xs t o h

-- the same are due
due-lacking : (clock : ℕ) (vs : List ℕ) (ticks left : List (Option ℕ)) → ((t : ℕ) → LacksAt clock ticks left t) → AreDue clock ticks vs
    → AreDue clock left vs
due-lacking clock [] ticks left lacks h = λ t n e. elim (lacks t) [ inl same ↦ h t n (sym same ∙ e) | inr out ↦ cc ]
due-lacking clock (v ∷ vs) ticks left lacks h = (next, due-lacking clock vs (set ticks v None) (set left v None) lacks_then h.1)
  where
    back : (t n : ℕ) → tick_at left t ≡ Some n → tick_at ticks t ≡ Some n
    back t n e = elim (lacks t) [ inl same ↦ sym same ∙ e | inr out ↦ cc ]

    there : (t n : ℕ) → tick_at ticks t ≡ Some n → n ≤ clock → tick_at left t ≡ Some n
    there t n e due = elim (lacks t) [ inl same ↦ same ∙ e | inr out ↦ absurd (omega (arith, due, out.1 n e)) ]

    next : IsNextDue left clock v
    next = record {
      tick = h.0.tick;
      armed = there v h.0.tick h.0.armed h.0.due;
      due = h.0.due;
      earliest = λ other later e. h.0.earliest other later (back other later e);
      lowest = λ other e. h.0.lowest other (back other h.0.tick e);
    }

    lacks_then : (t : ℕ) → LacksAt clock (set ticks v None) (set left v None) t
    lacks_then t = by_place (t == v) refl
      where
        by_place : (b : Bool) → t == v ≡ b → LacksAt clock (set ticks v None) (set left v None) t
        by_place true e = let here : t ≡ v = eqb-true t v e in rw here (inl (taken-none left v ∙ sym (taken-none ticks v)))
        by_place false e =
            let l : tick_at (set left v None) t ≡ tick_at left t = get_or-set_other left v t None None (eqb-false t v e) in
            let r : tick_at (set ticks v None) t ≡ tick_at ticks t = get_or-set_other ticks v t None None (eqb-false t v e) in
            rw (l, r) (lacks t)

-- a task that is armed anew for later is no longer due
pub due-again : (clock : ℕ) (vs : List ℕ) (ticks : List (Option ℕ)) (u : ℕ) (o : Option ℕ) → IsLater clock o
    → AreDue clock (set ticks u o) vs → AreDue clock (set ticks u None) vs
due-again clock vs ticks u o later h = due-lacking clock vs (set ticks u o) (set ticks u None) lacks h
  where
    lacks : (t : ℕ) → LacksAt clock (set ticks u o) (set ticks u None) t
    lacks t = by_place (t == u) refl
      where
        by_place : (b : Bool) → t == u ≡ b → LacksAt clock (set ticks u o) (set ticks u None) t
        by_place true e =
            let here : t ≡ u = eqb-true t u e in rw here (inr (taken-none ticks u, later-set clock ticks u o later))
        by_place false e =
            let apart = eqb-false t u e in
            inl (get_or-set_other ticks u t None None apart ∙ sym (get_or-set_other ticks u t o None apart))

-- ---- how many are due

abbrev pub due_count : ℕ → List (Option ℕ) → ℕ
due_count clock ticks = count_by (has_come clock) ticks

pub fewer-due : (clock : ℕ) (ticks : List (Option ℕ)) (u : ℕ) (o : Option ℕ) → u < length ticks → IsNextDue ticks clock u
    → IsLater clock o → due_count clock (set ticks u o) < due_count clock ticks
fewer-due clock ticks u o inside next later =
    omega (arith, sum_by-set one ticks u o None inside, ap one next.armed, due next.tick next.due, ahead o later)
  where
    one : Option ℕ → ℕ
    one x = cond (has_come clock x) 1 0

    due : (n : ℕ) → n ≤ clock → one (Some n) ≡ 1
    due n h = let come : has_come clock (Some n) ≡ true = grind (arith, nat_tests, h) in rw come

    ahead : (o : Option ℕ) → IsLater clock o → one o ≡ 0
    ahead None h = refl
    ahead (Some n) h =
        let low : clock < n = h n refl in
        let come : has_come clock (Some n) ≡ false = grind (arith, nat_tests, low) in
        rw come
