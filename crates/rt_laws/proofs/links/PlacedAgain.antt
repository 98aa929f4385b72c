-- Placing again over the same top and the same running tasks changes no link.
use Rattle.std.proofs.Common.{◌≡◌, ℕ, ◌≤◌, Bool, true, false, not, ◌&&◌, ◌||◌, cond, ◌⊎◌, inl, inr, List, [], ◌∷◌, length, refl, ap, ◌∙◌, arith}
use Rattle.std.specs.Prelude.{Option, None, Some, ◌==◌, filter}
use Rattle.rt_rules.specs.Distinct.{IsDistinct}
use Rattle.rt_rules.specs.Numbers.{has, is}
use Rattle.rt_rules.specs.Placing.{is_of, tasks_in, kept_link, kept, filled, filled_with, placed}
use Rattle.rt_rules.proofs.PlacingLaws.{or_true, equal_self, has-filter, has-tasks_in, either, is-is_of, has-placed}

-- what fills the gaps is of the top and runs nowhere
pub record CanFill (top running us : List ℕ) : Type 0 where
  pub of_top : (u : ℕ) → has u us ≡ true → has u top ≡ true
  pub runs_not : (u : ℕ) → has u us ≡ true → has u running ≡ false

can_fill-tail : (top running : List ℕ) (u : ℕ) (us : List ℕ) → CanFill top running (u ∷ us) → CanFill top running us
can_fill-tail top running u us f = record { of_top = λ v h. f.of_top v (rw h (or_true (v == u))); runs_not = λ v h. f.runs_not v (rw h (or_true (v == u))) }

module _ (top running : List ℕ) (rs xs : List (Option ℕ)) (again : (us : List ℕ) → CanFill top running us → kept top running rs (filled xs us) ≡ filled xs us) where
  -- a gap is left, or filled with a task that stays there
  at_gap : (r : Option ℕ) → is_of top r ≡ false → (us : List ℕ) → CanFill top running us → kept top running (r ∷ rs) (filled (None ∷ xs) us) ≡ filled (None ∷ xs) us
  at_gap r out [] f = rw out (ap (λ ys. None ∷ ys) (again [] f))
  at_gap r out (u ∷ us) f = rw (out, f.of_top u (rw (equal_self u)), f.runs_not u (rw (equal_self u))) (ap (λ ys. Some u ∷ ys) (again us (can_fill-tail top running u us f)))

  -- a link that was kept is kept again
  at_link : (r l : Option ℕ) → is_of top r ≡ false → is_of top l && not (is_of running l) ≡ true → (us : List ℕ) → CanFill top running us → kept top running (r ∷ rs) (filled (l ∷ xs) us) ≡ filled (l ∷ xs) us
  at_link r None out stays us f = cc
  at_link r (Some l) out stays us f = rw (out, stays) (ap (λ ys. Some l ∷ ys) (again us f))

  at_run : (r : Option ℕ) → is_of top r ≡ true → (us : List ℕ) → CanFill top running us → kept top running (r ∷ rs) (filled (r ∷ xs) us) ≡ filled (r ∷ xs) us
  at_run None in_top us f = cc
  at_run (Some r) in_top us f = rw in_top (ap (λ ys. Some r ∷ ys) (again us f))

  at_head : (r l : Option ℕ) (us : List ℕ) → CanFill top running us → kept top running (r ∷ rs) (filled (kept_link top running r l ∷ xs) us) ≡ filled (kept_link top running r l ∷ xs) us
  at_head r l us f = by_cases (is_of top r) (is_of top l && not (is_of running l)) refl refl
    where
      by_cases : (a b : Bool) → is_of top r ≡ a → is_of top l && not (is_of running l) ≡ b → kept top running (r ∷ rs) (filled (cond a r (cond b l None) ∷ xs) us) ≡ filled (cond a r (cond b l None) ∷ xs) us
      by_cases true b e k = at_run r e us f
      by_cases false true e k = at_link r l e k us f
      by_cases false false e k = at_gap r e us f

kept-filled : (top running : List ℕ) (rs ls : List (Option ℕ)) (us : List ℕ) → CanFill top running us → kept top running rs (filled (kept top running rs ls) us) ≡ filled (kept top running rs ls) us
kept-filled top running [] ls us f = refl
kept-filled top running (r ∷ rs) [] us f = refl
kept-filled top running (r ∷ rs) (l ∷ ls) us f = at_head top running rs (kept top running rs ls) (kept-filled top running rs ls) r l us f

-- a task of the top that runs keeps its processor
kept-runs : (u : ℕ) (top running : List ℕ) (rs ls : List (Option ℕ)) → length rs ≡ length ls → has u top ≡ true → has u (tasks_in rs) ≡ true → has u (tasks_in (kept top running rs ls)) ≡ true
kept-runs u top running [] ls same in_top there = cc
kept-runs u top running (r ∷ rs) [] same in_top there = absurd (omega arith)
kept-runs u top running (r ∷ rs) (l ∷ ls) same in_top there = rw has-tasks_in (join (either (is u r) _ (rw has-tasks_in at there)) (kept-runs u top running rs ls (omega arith) in_top))
  where
    join : (is u r ≡ true) ⊎ (has u (tasks_in rs) ≡ true) → (has u (tasks_in rs) ≡ true → has u (tasks_in (kept top running rs ls)) ≡ true) → is u (kept_link top running r l) || has u (tasks_in (kept top running rs ls)) ≡ true
    join (inl h) rest = let e : is_of top r ≡ true = is-is_of u top r h ∙ in_top in let k : is u (kept_link top running r l) ≡ true = rw e h in rw k
    join (inr h) rest = rw (rest h) (or_true (is u (kept_link top running r l)))

filter-none : (p : ℕ → Bool) (ts : List ℕ) → ((t : ℕ) → has t ts ≡ true → p t ≡ false) → filter p ts ≡ []
filter-none p [] none = refl
filter-none p (t ∷ ts) none = rw (none t (rw (equal_self t))) (filter-none p ts (λ u h. none u (rw h (or_true (u == t)))))

filled-none : (ls : List (Option ℕ)) → filled ls [] ≡ ls
filled-none [] = refl
filled-none (None ∷ ls) = ap (λ xs. None ∷ xs) (filled-none ls)
filled-none (Some l ∷ ls) = ap (λ xs. Some l ∷ xs) (filled-none ls)

-- links that were placed stay where they are placed again
pub placed-again : (top : List ℕ) (runs links : List (Option ℕ)) → IsDistinct top → IsDistinct (tasks_in runs) → IsDistinct (tasks_in links) → length runs ≡ length links → length top ≤ length runs → placed top runs (placed top runs links) ≡ placed top runs links
placed-again top runs links dt dr dl same fits =
    let ks : List (Option ℕ) = kept top (tasks_in runs) runs links in
    let us : List ℕ = filter (λ t. not (has t (tasks_in ks))) top in
    let p : List (Option ℕ) = placed top runs links in
    let fill : CanFill top (tasks_in runs) us = record { of_top = λ u h. (from_filter u h).0; runs_not = λ u h. absent u (from_filter u h).0 (from_filter u h).1 } in
    let stay : kept top (tasks_in runs) runs p ≡ p = kept-filled top (tasks_in runs) runs links us fill in
    let none : filter (λ t. not (has t (tasks_in p))) top ≡ [] = filter-none _ top (λ t h. let all : has t (tasks_in p) ≡ has t top = has-placed t top runs links dt dr dl same fits in rw (all, h)) in
    ap (λ xs. filled_with top xs) stay ∙ rw none (filled-none p)
  where
    parts : (a b : Bool) → a && not b ≡ true → (a ≡ true) × (b ≡ false)
    parts true true h = cc
    parts true false h = (refl, refl)
    parts false b h = cc

    from_filter : (u : ℕ) → has u (filter (λ t. not (has t (tasks_in (kept top (tasks_in runs) runs links)))) top) ≡ true → (has u top ≡ true) × (has u (tasks_in (kept top (tasks_in runs) runs links)) ≡ false)
    from_filter u h = parts _ _ (rw has-filter at h)

    absent : (u : ℕ) → has u top ≡ true → has u (tasks_in (kept top (tasks_in runs) runs links)) ≡ false → has u (tasks_in runs) ≡ false
    absent u in_top out = by_case (has u (tasks_in runs)) refl
      where
        by_case : (b : Bool) → has u (tasks_in runs) ≡ b → b ≡ false
        by_case true e = let k = kept-runs u top (tasks_in runs) runs links same in_top e in cc
        by_case false e = refl
