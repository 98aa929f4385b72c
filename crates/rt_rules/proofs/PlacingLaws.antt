-- The links are exactly the top of the cluster, each task once.
use Rattle.std.proofs.Common.{Bool, List, [], ap, arith, cond, eqb-true, false, inl, inr, length, not, refl, suc, sym, true, ℕ, ◌&&◌, ◌+◌, ◌||◌, ◌∙◌, ◌∷◌, ◌≡◌, ◌≤◌, ◌⊎◌}
use Rattle.std.specs.Prelude.{None, Option, Some, filter, ◌==◌}
use Rattle.rt_rules.specs.Distinct.{IsDistinct}
use Rattle.rt_rules.specs.Numbers.{has, is}
use Rattle.rt_rules.specs.Placing.{filled, is_of, kept, kept_link, placed, tasks_in}
pub use Rattle.rt_rules.proofs.BoolLaws.{unless, either, or_true, or_middle, or_assoc}
pub use Rattle.rt_rules.proofs.MemberLaws.{equal_self, has-filter}
use Rattle.rt_rules.proofs.MemberLaws.{turned}

-- how many processors are left
abbrev pub gaps : List (Option ℕ) → ℕ
gaps [] = 0
gaps (None ∷ ls) = gaps ls + 1
gaps (Some t ∷ ls) = gaps ls

pub has-filled : (t : ℕ) (ls : List (Option ℕ)) (ts : List ℕ) → length ts ≤ gaps ls → has t (tasks_in (filled ls ts)) ≡ has t (tasks_in ls) || has t ts
has-filled t [] [] fits = refl
has-filled t [] (u ∷ us) fits = absurd (omega arith)
has-filled t (None ∷ ls) [] fits = has-filled t ls [] (omega arith)
has-filled t (None ∷ ls) (u ∷ us) fits = rw (has-filled t ls us (omega arith)) (or_middle (t == u) (has t (tasks_in ls)) (has t us))
has-filled t (Some u ∷ ls) us fits = rw (has-filled t ls us fits) (or_assoc (t == u) (has t (tasks_in ls)) (has t us))

pub length-kept : (top running : List ℕ) (rs ls : List (Option ℕ)) → length rs ≡ length ls → length (kept top running rs ls) ≡ length rs
length-kept top running [] [] e = refl
length-kept top running [] (l ∷ ls) e = absurd (omega arith)
length-kept top running (r ∷ rs) [] e = absurd (omega arith)
length-kept top running (r ∷ rs) (l ∷ ls) e = ap suc (length-kept top running rs ls (omega arith))

pub length-gaps : (ls : List (Option ℕ)) → length (tasks_in ls) + gaps ls ≡ length ls
length-gaps [] = refl
length-gaps (None ∷ ls) = omega (arith, length-gaps ls)
length-gaps (Some t ∷ ls) = omega (arith, length-gaps ls)

pub has-tasks_in : (t : ℕ) (o : Option ℕ) (ls : List (Option ℕ)) → has t (tasks_in (o ∷ ls)) ≡ is t o || has t (tasks_in ls)
has-tasks_in t None ls = refl
has-tasks_in t (Some u) ls = refl

pub is-is_of : (t : ℕ) (ts : List ℕ) (o : Option ℕ) → is t o ≡ true → is_of ts o ≡ has t ts
is-is_of t ts None h = cc
is-is_of t ts (Some u) h = let e : t ≡ u = eqb-true t u h in ap (λ n. has n ts) (sym e)

-- what a processor keeps is a task of the top, which ran there, or was linked there and ran nowhere
pub is-kept_link : (t : ℕ) (top running : List ℕ) (r l : Option ℕ) → is t (kept_link top running r l) ≡ true → (has t top ≡ true) × ((is t r ≡ true) ⊎ (is t l ≡ true) × (has t running ≡ false))
is-kept_link t top running r l = by_cases (is_of top r) (is_of top l) (is_of running l) refl refl refl
  where
    by_cases : (a b c : Bool) → is_of top r ≡ a → is_of top l ≡ b → is_of running l ≡ c → is t (cond a r (cond (b && not c) l None)) ≡ true → (has t top ≡ true) × ((is t r ≡ true) ⊎ (is t l ≡ true) × (has t running ≡ false))
    by_cases true b c e f k h = (sym (is-is_of t top r h) ∙ e, inl h)
    by_cases false true false e f k h = (sym (is-is_of t top l h) ∙ f, inr (h, sym (is-is_of t running l h) ∙ k))
    by_cases false true true e f k h = cc
    by_cases false false c e f k h = cc

at_head : (a a' b b' : Bool) {N : Type 0} → (a ≡ true) ⊎ (b ≡ true) × N → (a || a' ≡ true) ⊎ (b || b' ≡ true) × N
at_head a a' b b' (inl h) = inl (rw h)
at_head a a' b b' (inr h) = inr (rw h.0, h.1)

at_tail : (a a' b b' : Bool) {N : Type 0} → (a' ≡ true) ⊎ (b' ≡ true) × N → (a || a' ≡ true) ⊎ (b || b' ≡ true) × N
at_tail a a' b b' (inl h) = inl (rw h (or_true a))
at_tail a a' b b' (inr h) = inr (rw h.0 (or_true b), h.1)

-- a task that is kept is one of the top, and ran, or was linked and ran nowhere
pub has-kept : (t : ℕ) (top running : List ℕ) (rs ls : List (Option ℕ)) → has t (tasks_in (kept top running rs ls)) ≡ true → (has t top ≡ true) × ((has t (tasks_in rs) ≡ true) ⊎ (has t (tasks_in ls) ≡ true) × (has t running ≡ false))
has-kept t top running [] ls h = cc
has-kept t top running (r ∷ rs) [] h = cc
has-kept t top running (r ∷ rs) (l ∷ ls) h = rw (has-tasks_in t r rs, has-tasks_in t l ls) (join (either _ _ (rw has-tasks_in at h)) (has-kept t top running rs ls))
  where
    join : (is t (kept_link top running r l) ≡ true) ⊎ (has t (tasks_in (kept top running rs ls)) ≡ true) → (has t (tasks_in (kept top running rs ls)) ≡ true → (has t top ≡ true) × ((has t (tasks_in rs) ≡ true) ⊎ (has t (tasks_in ls) ≡ true) × (has t running ≡ false)))
        → (has t top ≡ true) × ((is t r || has t (tasks_in rs) ≡ true) ⊎ (is t l || has t (tasks_in ls) ≡ true) × (has t running ≡ false))
    join (inl k) rest = let p = is-kept_link t top running r l k in (p.0, at_head _ _ _ _ p.1)
    join (inr k) rest = let p = rest k in (p.0, at_tail _ _ _ _ p.1)

-- ---- each task once

pub distinct-tail : (o : Option ℕ) (ls : List (Option ℕ)) → IsDistinct (tasks_in (o ∷ ls)) → IsDistinct (tasks_in ls)
distinct-tail None ls d = d
distinct-tail (Some u) ls d = d.1

pub distinct-head : (t : ℕ) (o : Option ℕ) (ls : List (Option ℕ)) → IsDistinct (tasks_in (o ∷ ls)) → is t o ≡ true → has t (tasks_in ls) ≡ false
distinct-head t None ls d h = cc
distinct-head t (Some u) ls d h = let e : t ≡ u = eqb-true t u h in rw e d.0

pub distinct_cons : (o : Option ℕ) (ls : List (Option ℕ)) → ((t : ℕ) → is t o ≡ true → has t (tasks_in ls) ≡ false) → IsDistinct (tasks_in ls) → IsDistinct (tasks_in (o ∷ ls))
distinct_cons None ls apart d = d
distinct_cons (Some u) ls apart d = (apart u (equal_self u), d)

pub distinct-kept : (top running : List ℕ) (rs ls : List (Option ℕ)) → IsDistinct (tasks_in rs) → IsDistinct (tasks_in ls) → ((t : ℕ) → has t (tasks_in rs) ≡ true → has t running ≡ true) → IsDistinct (tasks_in (kept top running rs ls))
distinct-kept top running [] ls dr dl busy = tt
distinct-kept top running (r ∷ rs) [] dr dl busy = tt
distinct-kept top running (r ∷ rs) (l ∷ ls) dr dl busy = distinct_cons _ (kept top running rs ls) apart (distinct-kept top running rs ls (distinct-tail r rs dr) (distinct-tail l ls dl) (λ t h. busy t (rw (has-tasks_in t r rs, h) (or_true (is t r)))))
  where
    -- what is kept here is kept nowhere else
    clash : (t : ℕ) → (is t r ≡ true) ⊎ (is t l ≡ true) × (has t running ≡ false) → (has t (tasks_in rs) ≡ true) ⊎ (has t (tasks_in ls) ≡ true) × (has t running ≡ false) → ⊥
    clash t (inl h) (inl k) = let n = distinct-head t r rs dr h in cc
    clash t (inl h) (inr k) = let b = busy t (rw (has-tasks_in t r rs, h)) in cc
    clash t (inr h) (inl k) = let b = busy t (rw (has-tasks_in t r rs, k) (or_true (is t r))) in cc
    clash t (inr h) (inr k) = let n = distinct-head t l ls dl h.0 in cc

    apart : (t : ℕ) → is t (kept_link top running r l) ≡ true → has t (tasks_in (kept top running rs ls)) ≡ false
    apart t h = by_case (has t (tasks_in (kept top running rs ls))) refl
      where
        by_case : (b : Bool) → has t (tasks_in (kept top running rs ls)) ≡ b → b ≡ false
        by_case false e = refl
        by_case true e = absurd (clash t (is-kept_link t top running r l h).1 (has-kept t top running rs ls e).1)

-- ---- as many of the top are left as there are tasks of it that are not kept

-- the tasks of ts that are not in us
abbrev pub beside : List ℕ → List ℕ → List ℕ
beside us ts = filter (λ t. not (has t us)) ts

pub distinct-filter : (p : ℕ → Bool) (ts : List ℕ) → IsDistinct ts → IsDistinct (filter p ts)
distinct-filter p [] d = tt
distinct-filter p (t ∷ ts) d = by_case (p t) (distinct-filter p ts d.1)
  where
    by_case : (b : Bool) → IsDistinct (filter p ts) → IsDistinct (cond b (t ∷ filter p ts) (filter p ts))
    by_case true rest = (rw (has-filter p t ts, d.0), rest)
    by_case false rest = rest

-- one that is not there takes nothing out
filter-absent : (u : ℕ) (ts : List ℕ) → has u ts ≡ false → filter (λ t. not (u == t)) ts ≡ ts
filter-absent u [] h = refl
filter-absent u (t ∷ ts) h = by_case (u == t) h (filter-absent u ts)
  where
    by_case : (b : Bool) → b || has u ts ≡ false → (has u ts ≡ false → filter (λ t. not (u == t)) ts ≡ ts) → cond (not b) (t ∷ filter (λ t. not (u == t)) ts) (filter (λ t. not (u == t)) ts) ≡ t ∷ ts
    by_case true k rest = cc
    by_case false k rest = ap (λ xs. t ∷ xs) (rest k)

-- one that is there once is taken out
length-without_one : (u : ℕ) (ts : List ℕ) → IsDistinct ts → has u ts ≡ true → length (filter (λ t. not (u == t)) ts) + 1 ≡ length ts
length-without_one u [] d h = cc
length-without_one u (t ∷ ts) d h = by_case (u == t) refl h (length-without_one u ts d.1)
  where
    by_case : (b : Bool) → u == t ≡ b → b || has u ts ≡ true → (has u ts ≡ true → length (filter (λ t. not (u == t)) ts) + 1 ≡ length ts) → length (cond (not b) (t ∷ filter (λ t. not (u == t)) ts) (filter (λ t. not (u == t)) ts)) + 1 ≡ length (t ∷ ts)
    by_case true e k rest = let same : u ≡ t = eqb-true u t e in let absent : has u ts ≡ false = rw same d.0 in rw (filter-absent u ts absent) (omega arith)
    by_case false e k rest = omega (arith, rest k)

filter-all : (ts : List ℕ) → beside [] ts ≡ ts
filter-all [] = refl
filter-all (t ∷ ts) = ap (λ xs. t ∷ xs) (filter-all ts)

beside-cons : (u : ℕ) (us ts : List ℕ) → beside (u ∷ us) ts ≡ filter (λ t. not (u == t)) (beside us ts)
beside-cons u us [] = refl
beside-cons u us (t ∷ ts) = by_case (t == u) (u == t) (has t us) (turned t u) refl (beside-cons u us ts)
  where
    by_case : (a b c : Bool) → a ≡ b → u == t ≡ b → beside (u ∷ us) ts ≡ filter (λ t. not (u == t)) (beside us ts) → cond (not (a || c)) (t ∷ beside (u ∷ us) ts) (beside (u ∷ us) ts) ≡ filter (λ t. not (u == t)) (cond (not c) (t ∷ beside us ts) (beside us ts))
    by_case true true true e k rest = rest
    by_case true true false e k rest = rw k rest
    by_case true false c e k rest = cc
    by_case false true c e k rest = cc
    by_case false false true e k rest = rest
    by_case false false false e k rest = rw k (ap (λ xs. t ∷ xs) rest)

pub length-beside : (us ts : List ℕ) → IsDistinct us → IsDistinct ts → ((t : ℕ) → has t us ≡ true → has t ts ≡ true) → length (beside us ts) + length us ≡ length ts
length-beside [] ts du dt inside = rw filter-all (omega arith)
length-beside (u ∷ us) ts du dt inside =
    let there : has u (beside us ts) ≡ true = rw (has-filter (λ t. not (has t us)) u ts, inside u (rw (equal_self u)), du.0) in
    let taken : length (filter (λ t. not (u == t)) (beside us ts)) + 1 ≡ length (beside us ts) = length-without_one u (beside us ts) (distinct-filter (λ t. not (has t us)) ts dt) there in
    rw beside-cons (omega (arith, length-beside us ts du.1 dt (λ t h. inside t (rw h (or_true (t == u))))))

-- the links are exactly the tasks of the top
pub has-placed : (t : ℕ) (top : List ℕ) (runs links : List (Option ℕ)) → IsDistinct top → IsDistinct (tasks_in runs) → IsDistinct (tasks_in links) → length runs ≡ length links → length top ≤ length runs → has t (tasks_in (placed top runs links)) ≡ has t top
has-placed t top runs links dt dr dl same_length fits =
    let ks : List (Option ℕ) = kept top (tasks_in runs) runs links in
    let inside : (u : ℕ) → has u (tasks_in ks) ≡ true → has u top ≡ true = λ u h. (has-kept u top (tasks_in runs) runs links h).0 in
    let distinct : IsDistinct (tasks_in ks) = distinct-kept top (tasks_in runs) runs links dr dl (λ u h. h) in
    let count : length (beside (tasks_in ks) top) + length (tasks_in ks) ≡ length top = length-beside (tasks_in ks) top distinct dt inside in
    let fit : length (beside (tasks_in ks) top) ≤ gaps ks = omega (arith, length-gaps ks, length-kept top (tasks_in runs) runs links same_length) in
    has-filled t ks (beside (tasks_in ks) top) fit ∙ ap (λ b. has t (tasks_in ks) || b) (has-filter _ t top) ∙ covered (has t (tasks_in ks)) (has t top) (inside t)
  where
    covered : (a b : Bool) → (a ≡ true → b ≡ true) → a || (b && not a) ≡ b
    covered true b h = sym (h refl)
    covered false true h = refl
    covered false false h = refl
