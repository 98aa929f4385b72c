-- Laws of every past that moves make: no task runs twice or is linked twice, and the links are exactly the top.
use Rattle.std.proofs.Common.{Bool, List, [], ap, arith, false, inl, inr, length, not, refl, suc, sym, true, zero, ℕ, ◌&&◌, ◌<◌, ◌||◌, ◌∙◌, ◌∷◌, ◌≡◌, ◌≤◌, ◌⊎◌}
use Rattle.std.specs.Prelude.{None, Option, Some, ◌==◌}
use Rattle.rt_rules.specs.Distinct.{IsDistinct}
use Rattle.rt_rules.specs.Numbers.{has, is}
use Rattle.rt_rules.specs.Placing.{link_at, filled, is_of, kept, placed, tasks_in}
use Rattle.rt_rules.proofs.BoolLaws.{either, or_true, unless, neither}
use Rattle.rt_rules.proofs.MemberLaws.{equal_self, has-filter}
use Rattle.rt_rules.proofs.PlacingLaws.{beside, distinct-filter, distinct-head, distinct-kept, distinct-tail, has-placed, has-tasks_in, is-is_of, length-kept}

-- ---- placing keeps each task once

has-filled_le : (t : ℕ) (ls : List (Option ℕ)) (ts : List ℕ) → has t (tasks_in (filled ls ts)) ≡ true → (has t (tasks_in ls) ≡ true) ⊎ (has t ts ≡ true)
has-filled_le t [] ts h = cc
has-filled_le t (Some u ∷ ls) ts h = join (either (t == u) _ h) (has-filled_le t ls ts)
  where
    join : (t == u ≡ true) ⊎ (has t (tasks_in (filled ls ts)) ≡ true) → (has t (tasks_in (filled ls ts)) ≡ true → (has t (tasks_in ls) ≡ true) ⊎ (has t ts ≡ true)) → (t == u || has t (tasks_in ls) ≡ true) ⊎ (has t ts ≡ true)
    join (inl k) rest = inl (rw k)
    join (inr k) rest = further (rest k)
      where
        further : (has t (tasks_in ls) ≡ true) ⊎ (has t ts ≡ true) → (t == u || has t (tasks_in ls) ≡ true) ⊎ (has t ts ≡ true)
        further (inl m) = inl (rw m (or_true (t == u)))
        further (inr m) = inr m
has-filled_le t (None ∷ ls) [] h = has-filled_le t ls [] h
has-filled_le t (None ∷ ls) (u ∷ ts) h = join (either (t == u) _ h) (has-filled_le t ls ts)
  where
    join : (t == u ≡ true) ⊎ (has t (tasks_in (filled ls ts)) ≡ true) → (has t (tasks_in (filled ls ts)) ≡ true → (has t (tasks_in ls) ≡ true) ⊎ (has t ts ≡ true)) → (has t (tasks_in ls) ≡ true) ⊎ (t == u || has t ts ≡ true)
    join (inl k) rest = inr (rw k)
    join (inr k) rest = further (rest k)
      where
        further : (has t (tasks_in ls) ≡ true) ⊎ (has t ts ≡ true) → (has t (tasks_in ls) ≡ true) ⊎ (t == u || has t ts ≡ true)
        further (inl m) = inl m
        further (inr m) = inr (rw m (or_true (t == u)))

distinct-filled : (ls : List (Option ℕ)) (ts : List ℕ) → IsDistinct (tasks_in ls) → IsDistinct ts → ((t : ℕ) → has t ts ≡ true → has t (tasks_in ls) ≡ false) → IsDistinct (tasks_in (filled ls ts))
distinct-filled [] ts dl dt apart = tt
distinct-filled (Some u ∷ ls) ts dl dt apart = (unless (has u (tasks_in (filled ls ts))) (λ h. clash (has-filled_le u ls ts h)), distinct-filled ls ts dl.1 dt (λ t h. later t (apart t h)))
  where
    later : (t : ℕ) → t == u || has t (tasks_in ls) ≡ false → has t (tasks_in ls) ≡ false
    later t h = (neither (t == u) (has t (tasks_in ls)) h).1

    clash : (has u (tasks_in ls) ≡ true) ⊎ (has u ts ≡ true) → ⊥
    clash (inl k) = let n = dl.0 in cc
    clash (inr k) = let n : u == u || has u (tasks_in ls) ≡ false = apart u k in let m : true ≡ false = rw (equal_self u) at n in cc
distinct-filled (None ∷ ls) [] dl dt apart = distinct-filled ls [] dl dt apart
distinct-filled (None ∷ ls) (u ∷ ts) dl dt apart = (unless (has u (tasks_in (filled ls ts))) (λ h. clash (has-filled_le u ls ts h)), distinct-filled ls ts dl dt.1 (λ t h. apart t (rw h (or_true (t == u)))))
  where
    clash : (has u (tasks_in ls) ≡ true) ⊎ (has u ts ≡ true) → ⊥
    clash (inl k) = let n : has u (tasks_in ls) ≡ false = apart u (rw (equal_self u)) in cc
    clash (inr k) = let n = dt.0 in cc

pub distinct-placed : (top : List ℕ) (runs links : List (Option ℕ)) → IsDistinct top → IsDistinct (tasks_in runs) → IsDistinct (tasks_in links) → IsDistinct (tasks_in (placed top runs links))
distinct-placed top runs links dt dr dl =
    let ks : List (Option ℕ) = kept top (tasks_in runs) runs links in
    distinct-filled ks (beside (tasks_in ks) top) (distinct-kept top (tasks_in runs) runs links dr dl (λ u h. h)) (distinct-filter (λ t. not (has t (tasks_in ks))) top dt) apart
  where
    left : (a b : Bool) → a && not b ≡ true → b ≡ false
    left true true h = cc
    left false true h = cc
    left a false h = refl

    apart : (t : ℕ) → has t (beside (tasks_in (kept top (tasks_in runs) runs links)) top) ≡ true → has t (tasks_in (kept top (tasks_in runs) runs links)) ≡ false
    apart t h = left (has t top) _ (rw has-filter at h)

-- ---- a processor that runs one of the top keeps it

is-filled : (t : ℕ) (ls : List (Option ℕ)) (ts : List ℕ) (k : ℕ) → is t (link_at ls k) ≡ true → is t (link_at (filled ls ts) k) ≡ true
is-filled t [] ts k h = h
is-filled t (Some u ∷ ls) ts zero h = h
is-filled t (Some u ∷ ls) ts (suc k) h = is-filled t ls ts k h
is-filled t (None ∷ ls) [] zero h = h
is-filled t (None ∷ ls) [] (suc k) h = is-filled t ls [] k h
is-filled t (None ∷ ls) (u ∷ ts) zero h = cc
is-filled t (None ∷ ls) (u ∷ ts) (suc k) h = is-filled t ls ts k h

is-kept : (t : ℕ) (top running : List ℕ) (rs ls : List (Option ℕ)) (k : ℕ) → length rs ≡ length ls → is t (link_at rs k) ≡ true → has t top ≡ true → is t (link_at (kept top running rs ls) k) ≡ true
is-kept t top running [] ls k e h there = cc
is-kept t top running (r ∷ rs) [] k e h there = absurd (omega arith)
is-kept t top running (r ∷ rs) (l ∷ ls) zero e h there = let of_top : is_of top r ≡ true = is-is_of t top r h ∙ there in rw of_top h
is-kept t top running (r ∷ rs) (l ∷ ls) (suc k) e h there = is-kept t top running rs ls k (omega arith) h there

pub has-link_at : (t : ℕ) (ls : List (Option ℕ)) (k : ℕ) → is t (link_at ls k) ≡ true → has t (tasks_in ls) ≡ true
has-link_at t [] k h = cc
has-link_at t (l ∷ ls) zero h = rw (has-tasks_in t l ls, h)
has-link_at t (l ∷ ls) (suc k) h = rw (has-tasks_in t l ls, has-link_at t ls k h) (or_true (is t l))

pub one_link : (t : ℕ) (ls : List (Option ℕ)) (i j : ℕ) → IsDistinct (tasks_in ls) → is t (link_at ls i) ≡ true → is t (link_at ls j) ≡ true → i ≡ j
one_link t [] i j d h k = cc
one_link t (l ∷ ls) zero zero d h k = refl
one_link t (l ∷ ls) zero (suc j) d h k = let n = distinct-head t l ls d h in let m = has-link_at t ls j k in cc
one_link t (l ∷ ls) (suc i) zero d h k = let n = distinct-head t l ls d k in let m = has-link_at t ls i h in cc
one_link t (l ∷ ls) (suc i) (suc j) d h k = ap suc (one_link t ls i j (distinct-tail l ls d) h k)

-- a task that is linked at one place and runs at another is not of two places
pub links-runs : (t : ℕ) (top : List ℕ) (runs links : List (Option ℕ)) (i j : ℕ) → IsDistinct top → IsDistinct (tasks_in runs) → IsDistinct (tasks_in links) → length runs ≡ length links → length top ≤ length runs → is t (link_at (placed top runs links) i) ≡ true → is t (link_at runs j) ≡ true → i ≡ j
links-runs t top runs links i j dt dr dl same_length fits h k =
    let there : has t top ≡ true = sym (has-placed t top runs links dt dr dl same_length fits) ∙ has-link_at t (placed top runs links) i h in
    let ks : List (Option ℕ) = kept top (tasks_in runs) runs links in
    let stays : is t (link_at (placed top runs links) j) ≡ true = is-filled t ks (beside (tasks_in ks) top) j (is-kept t top (tasks_in runs) runs links j same_length k there) in
    one_link t (placed top runs links) i j (distinct-placed top runs links dt dr dl) h stays

length-filled : (ls : List (Option ℕ)) (ts : List ℕ) → length (filled ls ts) ≡ length ls
length-filled [] ts = refl
length-filled (Some u ∷ ls) ts = ap suc (length-filled ls ts)
length-filled (None ∷ ls) [] = ap suc (length-filled ls [])
length-filled (None ∷ ls) (t ∷ ts) = ap suc (length-filled ls ts)

pub length-placed : (top : List ℕ) (runs links : List (Option ℕ)) → length runs ≡ length links → length (placed top runs links) ≡ length runs
length-placed top runs links e = length-filled _ _ ∙ length-kept top (tasks_in runs) runs links e

pub link_at-inside : (t : ℕ) (ls : List (Option ℕ)) (k : ℕ) → is t (link_at ls k) ≡ true → k < length ls
link_at-inside t [] k h = cc
link_at-inside t (l ∷ ls) zero h = omega arith
link_at-inside t (l ∷ ls) (suc k) h = omega (arith, link_at-inside t ls k h)
