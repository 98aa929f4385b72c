-- Walks that do not come round, and the keys that are kept along them.
use Rattle.std.proofs.Common.{◌≡◌, ℕ, zero, suc, ◌+◌, ◌-◌, ◌<◌, ◌≤◌, true, false, ◌||◌, ◌⊎◌, inl, inr, eqb-true, List, [], ◌∷◌, length, map, refl, sym, ap, ◌∙◌, subst, arith}
use Rattle.std.specs.Prelude.{◌==◌, Option, None, Some}
use Rattle.rt_rules.specs.declared.Key.{Key}
use Rattle.rt_rules.specs.KeyOrder.{higher}
use Rattle.rt_rules.specs.Distinct.{IsDistinct}
use Rattle.rt_rules.specs.Numbers.{has, numbers_from}
use Rattle.rt_rules.specs.Keys.{highest}
use Rattle.rt_rules.specs.Walks.{walk, followers}
use Rattle.rt_rules.proofs.PlacingLaws.{either, or_true, unless, has-filter}
use Rattle.rt_rules.proofs.MemberLaws.{equal_self}
use Rattle.rt_rules.proofs.BoolLaws.{both, clash}
use Rattle.rt_rules.proofs.KeyLaws.{higher-falls, highest-is}
use Rattle.rt_rules.proofs.DistinctLaws.{length-few}
use Rattle.rt_rules.proofs.NumberLaws.{length-numbers_from, numbers_from-has}
use Rattle.prio_inherit.specs.Local.{IsTop}

-- ---- walks

walk-end : (next : ℕ → Option ℕ) (n : ℕ) (o : Option ℕ) → length (walk next (suc n) o) ≤ n → walk next (suc n) o ≡ walk next n o
walk-end next n None h = by_case n
  where
    by_case : (m : ℕ) → [] ≡ walk next m None
    by_case zero = refl
    by_case (suc m) = refl
walk-end next zero (Some u) h = absurd (omega arith)
walk-end next (suc n) (Some u) h = ap (λ (us : List ℕ). u ∷ us) (walk-end next n (next u) (omega arith))

has-walk-more : (next : ℕ → Option ℕ) (t n : ℕ) (o : Option ℕ) → has t (walk next n o) ≡ true → has t (walk next (suc n) o) ≡ true
has-walk-more next t zero o h = cc
has-walk-more next t (suc n) None h = cc
has-walk-more next t (suc n) (Some u) h = join (either (t == u) _ h) (has-walk-more next t n (next u))
  where
    join : (t == u ≡ true) ⊎ (has t (walk next n (next u)) ≡ true) → (has t (walk next n (next u)) ≡ true → has t (walk next (suc n) (next u)) ≡ true) → t == u || has t (walk next (suc n) (next u)) ≡ true
    join (inl m) r = rw m
    join (inr m) r = ap (λ b. t == u || b) (r m) ∙ or_true (t == u)

-- one step further
has-walk-step : (next : ℕ → Option ℕ) (u h n : ℕ) (o : Option ℕ) → has u (walk next n o) ≡ true → next u ≡ Some h → has h (walk next (suc n) o) ≡ true
has-walk-step next u h zero o m e = cc
has-walk-step next u h (suc n) None m e = cc
has-walk-step next u h (suc n) (Some v) m e = join (either (u == v) _ m) (has-walk-step next u h n (next v))
  where
    join : (u == v ≡ true) ⊎ (has u (walk next n (next v)) ≡ true) → (has u (walk next n (next v)) ≡ true → next u ≡ Some h → has h (walk next (suc n) (next v)) ≡ true) → h == v || has h (walk next (suc n) (next v)) ≡ true
    join (inl k) r = let s : next v ≡ Some h = ap next (sym (eqb-true u v k)) ∙ e in rw (s, equal_self h) (or_true (h == v))
    join (inr k) r = ap (λ b. h == v || b) (r k e) ∙ or_true (h == v)

-- the numbers of a row are below its end
below-numbers : (t a n : ℕ) → has t (numbers_from a n) ≡ true → t < a + n
below-numbers t a zero h = cc
below-numbers t a (suc n) h = join (either (t == a) _ h) (below-numbers t (suc a) n)
  where
    join : (t == a ≡ true) ⊎ (has t (numbers_from (suc a) n) ≡ true) → (has t (numbers_from (suc a) n) ≡ true → t < suc a + n) → t < a + suc n
    join (inl k) r = let e : t ≡ a = eqb-true t a k in omega arith
    join (inr k) r = omega (arith, r k)

-- the task that a walk comes to after so many steps
abbrev pub after : (ℕ → Option ℕ) → ℕ → Option ℕ → Option ℕ
after next zero o = o
after next (suc n) None = None
after next (suc n) (Some u) = after next n (next u)

after-long : (next : ℕ → Option ℕ) (n v : ℕ) (o : Option ℕ) → after next n o ≡ Some v → length (walk next (suc n) o) ≡ suc n
after-long next zero v None e = cc
after-long next zero v (Some u) e = refl
after-long next (suc n) v None e = cc
after-long next (suc n) v (Some u) e = omega (arith, after-long next n v (next u) e)

pub after-step : (next : ℕ → Option ℕ) (n v : ℕ) (o : Option ℕ) → after next n o ≡ Some v → after next (suc n) o ≡ next v
after-step next zero v None e = cc
after-step next zero v (Some u) e = let s : u ≡ v = cc in ap next s
after-step next (suc n) v None e = cc
after-step next (suc n) v (Some u) e = after-step next n v (next u) e

module _ (room : ℕ) (next : ℕ → Option ℕ) (within : (t v : ℕ) → next t ≡ Some v → v < room) (acyclic : (t : ℕ) → has t (walk next room (next t)) ≡ false) where
  has-short : (t n : ℕ) (o : Option ℕ) → n ≤ room → has t (walk next n o) ≡ true → has t (walk next room o) ≡ true
  has-short t n o h m = climb (room - n) n (omega arith) m
    where
      climb : (k m : ℕ) → m + k ≡ room → has t (walk next m o) ≡ true → has t (walk next room o) ≡ true
      climb zero m e x = subst (λ i. has t (walk next i o) ≡ true) (omega arith) x
      climb (suc k) m e x = climb k (suc m) (omega arith) (has-walk-more next t m o x)

  distinct-walk : (n : ℕ) (o : Option ℕ) → n ≤ suc room → IsDistinct (walk next n o)
  distinct-walk zero o h = tt
  distinct-walk (suc n) None h = tt
  distinct-walk (suc n) (Some u) h = (unless _ (λ m. clash _ (has-short u n (next u) (omega arith) m) (acyclic u)), distinct-walk n (next u) (omega arith))

  walk-within : (t n : ℕ) (o : Option ℕ) → ((v : ℕ) → o ≡ Some v → v < room) → has t (walk next n o) ≡ true → t < room
  walk-within t zero o h m = cc
  walk-within t (suc n) None h m = cc
  walk-within t (suc n) (Some u) h m = join (either (t == u) _ m) (walk-within t n (next u) (within u))
    where
      join : (t == u ≡ true) ⊎ (has t (walk next n (next u)) ≡ true) → (has t (walk next n (next u)) ≡ true → t < room) → t < room
      join (inl k) r = let s : t ≡ u = eqb-true t u k in let b : u < room = h u refl in omega arith
      join (inr k) r = r k

  length-walk : (o : Option ℕ) → ((v : ℕ) → o ≡ Some v → v < room) → length (walk next (suc room) o) ≤ room
  length-walk o h = length-few room (walk next (suc room) o) (distinct-walk (suc room) o (omega arith)) (λ t m. walk-within t (suc room) o h m)

  -- a walk ends within as many steps as there are tasks
  pub after-all : (o : Option ℕ) → ((v : ℕ) → o ≡ Some v → v < room) → after next room o ≡ None
  after-all o h = by_case (after next room o) refl
    where
      by_case : (p : Option ℕ) → after next room o ≡ p → p ≡ None
      by_case None e = refl
      by_case (Some v) e = absurd (let l : suc room ≤ room = omega (arith, length-walk o h, after-long next room v o e) in omega arith)

  -- and from a task below the room one step earlier
  length-from : (t : ℕ) → t < room → length (walk next room (next t)) + 1 ≤ room
  length-from t h = omega (arith, length-walk (Some t) (λ v e. let s : t ≡ v = cc in omega arith))

  -- a task further back on a walk is further from its end
  rank-step : (u h : ℕ) → next u ≡ Some h → length (walk next room (next u)) ≡ length (walk next room (next h)) + 1
  rank-step u h e = by_room room refl
    where
      below : h < room
      below = within u h e

      by_room : (n : ℕ) → room ≡ n → length (walk next room (next u)) ≡ length (walk next room (next h)) + 1
      by_room zero r = absurd (omega (arith, below))
      by_room (suc n) r =
          let short : length (walk next (suc n) (next h)) ≤ n = omega (arith, subst (λ m. length (walk next m (next h)) + 1 ≤ m) r (length-from h below)) in
          let same : walk next (suc n) (next h) ≡ walk next n (next h) = walk-end next n (next h) short in
          rw (r, e, same) (omega arith)

  module _ (base : ℕ → Key) (key : ℕ → Key) (top : (t : ℕ) → t < room → IsTop room next key (base t) t (key t)) where
    -- no task has a higher key than one to which a walk from it leads
    below-all : (h n u : ℕ) → u < room → has h (walk next n (next u)) ≡ true → higher (key u) (key h) ≡ false
    below-all h zero u below m = cc
    below-all h (suc n) u below m = by_next (next u) refl m (below-all h n)
      where
        by_next : (o : Option ℕ) → next u ≡ o → has h (walk next (suc n) o) ≡ true → ((v : ℕ) → v < room → has h (walk next n (next v)) ≡ true → higher (key v) (key h) ≡ false) → higher (key u) (key h) ≡ false
        by_next None e k rec = cc
        by_next (Some v) e k rec = join (either (h == v) _ k)
          where
            step : higher (key u) (key v) ≡ false
            step = (top v (within u v e)).waits u below e

            join : (h == v ≡ true) ⊎ (has h (walk next n (next v)) ≡ true) → higher (key u) (key h) ≡ false
            join (inl x) = ap (λ i. higher (key u) (key i)) (eqb-true h v x) ∙ step
            join (inr x) = higher-falls (key h) (key v) (key u) (rec v (within u v e) x) step

    -- the key of a task is a base key: its own, or one of a task from which a walk leads to it
    from_base : (m h : ℕ) → h < room → room ≤ length (walk next room (next h)) + m → (key h ≡ base h) ⊎ ((w : ℕ) × (w < room) × (has h (walk next room (next w)) ≡ true) × (key h ≡ base w))
    from_base zero h below long = absurd (omega (arith, length-from h below))
    from_base (suc m) h below long = by_top (top h below).among (from_base m)
      where
        by_top : (key h ≡ base h) ⊎ ((u : ℕ) × (u < room) × (next u ≡ Some h) × (key h ≡ key u)) → ((v : ℕ) → v < room → room ≤ length (walk next room (next v)) + m → (key v ≡ base v) ⊎ ((w : ℕ) × (w < room) × (has v (walk next room (next w)) ≡ true) × (key v ≡ base w))) → (key h ≡ base h) ⊎ ((w : ℕ) × (w < room) × (has h (walk next room (next w)) ≡ true) × (key h ≡ base w))
        by_top (inl e) rec = inl e
        by_top (inr q) rec = further (rec q.0 q.1 (omega (arith, rank-step q.0 h q.2)))
          where
            further : (key q.0 ≡ base q.0) ⊎ ((w : ℕ) × (w < room) × (has q.0 (walk next room (next w)) ≡ true) × (key q.0 ≡ base w)) → (key h ≡ base h) ⊎ ((w : ℕ) × (w < room) × (has h (walk next room (next w)) ≡ true) × (key h ≡ base w))
            further (inl e) = inr (q.0, q.1, has-short h 1 (next q.0) (omega arith) (rw (q.2, equal_self h)), q.3 ∙ e)
            further (inr r) =
                let more : has h (walk next (suc room) (next r.0)) ≡ true = has-walk-step next q.0 h room (next r.0) r.2 q.2 in
                let same : walk next (suc room) (next r.0) ≡ walk next room (next r.0) = walk-end next room (next r.0) (length-walk (next r.0) (within r.0)) in
                inr (r.0, r.1, ap (λ us. has h us) (sym same) ∙ more, q.3 ∙ r.3)

    -- the key that is kept is the one that the definition gives afresh
    pub kept-is : (t : ℕ) → t < room → key t ≡ highest (base t) (map base (followers next (numbers_from 0 room) t))
    kept-is t below = highest-is base (followers next (numbers_from 0 room) t) (base t) (key t) (top t below).own each (among (from_base room t below (omega arith)))
      where
        size : length (numbers_from 0 room) ≡ room
        size = length-numbers_from 0 room

        follows : (u : ℕ) → has u (followers next (numbers_from 0 room) t) ≡ true → (has u (numbers_from 0 room) ≡ true) × (has t (walk next room (next u)) ≡ true)
        follows u h = let p = both (has u (numbers_from 0 room)) (has t (walk next (length (numbers_from 0 room)) (next u))) (sym (has-filter (λ v. has t (walk next (length (numbers_from 0 room)) (next v))) u (numbers_from 0 room)) ∙ h) in (p.0, ap (λ n. has t (walk next n (next u))) (sym size) ∙ p.1)

        each : (u : ℕ) → has u (followers next (numbers_from 0 room) t) ≡ true → higher (base u) (key t) ≡ false
        each u h =
            let p = follows u h in
            let low : u < room = under u p.0 in
            higher-falls (key t) (key u) (base u) (below-all t room u low p.1) (top u low).own
          where
            under : (v : ℕ) → has v (numbers_from 0 room) ≡ true → v < room
            under v m = omega (arith, below-numbers v 0 room m)

        among : (key t ≡ base t) ⊎ ((w : ℕ) × (w < room) × (has t (walk next room (next w)) ≡ true) × (key t ≡ base w)) → (key t ≡ base t) ⊎ ((u : ℕ) × (has u (followers next (numbers_from 0 room) t) ≡ true) × (key t ≡ base u))
        among (inl e) = inl e
        among (inr q) = inr (q.0, has-filter (λ v. has t (walk next (length (numbers_from 0 room)) (next v))) q.0 (numbers_from 0 room) ∙ rw (numbers_from-has 0 room q.0 (omega arith) (omega (arith, q.1)), size, q.2), q.3)
