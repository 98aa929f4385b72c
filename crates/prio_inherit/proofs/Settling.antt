-- The keys that are kept, while one call changes them along a walk.
use Rattle.std.proofs.Common.{◌≡◌, ℕ, zero, suc, ◌+◌, ◌<◌, Bool, true, false, ◌||◌, ◌&&◌, ◌⊎◌, inl, inr, eqb-true, List, [], ◌∷◌, length, get_or, set, map, replicate, refl, sym, ap, ◌∙◌, subst, arith, length-set, get_or-set_same, get_or-set_other, add-one}
use Rattle.std.specs.Prelude.{◌==◌, Option, None, Some, is_some, unwrap_or}
use Rattle.std.proofs.lemmas.List.{get_or-replicate, length-replicate}
use Rattle.std.proofs.lemmas.Bool.Decides.{nat_tests}
use Rattle.rt_base.specs.declared.TaskNo.{TaskNo}
use Rattle.rt_base.specs.TaskNos.{number_of_task, numbers_of_tasks}
use Rattle.rt_rules.specs.declared.Key.{Key}
use Rattle.rt_rules.specs.KeyOrder.{higher, lowest_key}
use Rattle.rt_rules.specs.Numbers.{has, is, numbers_from}
use Rattle.rt_rules.specs.Keys.{highest}
use Rattle.rt_rules.specs.Walks.{walk, followers}
use Rattle.rt_rules.proofs.PlacingLaws.{either, or_true, unless}
use Rattle.sem_laws.specs.KeptKeys.{key_at}
use Rattle.rt_rules.proofs.MemberLaws.{equal_self, is-some, some-is}
use Rattle.rt_rules.proofs.BoolLaws.{both, clash}
use Rattle.rt_rules.specs.OrderLaws.{higher-irreflexive, higher-transitive}
use Rattle.prio_inherit.specs.Waits.{next_of, base_of, NoWalkComesRound}
use Rattle.prio_inherit.specs.Local.{IsTop, IsLocal, IsInherit, IsSettling}
use Rattle.prio_inherit.proofs.Walking.{after, after-step, after-all, kept-is}

-- ---- lists of tasks and of their numbers

pub next_of-numbers : (os : List (Option TaskNo)) (t : ℕ) → next_of (numbers_of_tasks os) t ≡ number_of_task (get_or os t None)
next_of-numbers [] t = refl
next_of-numbers (o ∷ os) zero = refl
next_of-numbers (o ∷ os) (suc t) = next_of-numbers os t

pub numbers-set : (os : List (Option TaskNo)) (t : ℕ) (o : Option TaskNo) → numbers_of_tasks (set os t o) ≡ set (numbers_of_tasks os) t (number_of_task o)
numbers-set [] t o = refl
numbers-set (p ∷ os) zero o = refl
numbers-set (p ∷ os) (suc t) o = ap (λ (ns : List (Option ℕ)). number_of_task p ∷ ns) (numbers-set os t o)

pub length-numbers : (os : List (Option TaskNo)) → length (numbers_of_tasks os) ≡ length os
length-numbers [] = refl
length-numbers (o ∷ os) = omega (arith, length-numbers os)

pub numbers-none : (n : ℕ) → numbers_of_tasks (replicate n None) ≡ replicate n None
numbers-none zero = refl
numbers-none (suc n) = ap (λ (ns : List (Option ℕ)). None ∷ ns) (numbers-none n)

pub set-set : {X : Type 0} (xs : List X) (i : ℕ) (x y : X) → set (set xs i x) i y ≡ set xs i y
set-set [] i x y = refl
set-set (z ∷ xs) zero x y = refl
set-set {X} (z ∷ xs) (suc i) x y = ap (λ (zs : List X). z ∷ zs) (set-set xs i x y)

-- a task of which the base key was told is below the room
pub told-below : (bases : List (Option Key)) (t : ℕ) → is_some (get_or bases t None) ≡ true → t < length bases
told-below [] t h = cc
told-below (b ∷ bases) zero h = omega arith
told-below (b ∷ bases) (suc t) h = omega (arith, told-below bases t h)

other : (a b : ℕ) → a == b ≡ false → a ≡ b → ⊥
other a b e s = let k : a == b ≡ true = ap (λ n. n == b) s ∙ equal_self b in clash _ k e

-- ---- the highest of the keys that wait for a task

-- one task more is looked at: it has a higher key than the best so far
pub top-higher : (i : ℕ) (next : ℕ → Option ℕ) (key : ℕ → Key) (base : Key) (t : ℕ) (k : Key) → IsTop i next key base t k → next i ≡ Some t → higher (key i) k ≡ true → IsTop (i + 1) next key base t (key i)
top-higher i next key base t k top waits up = record {
  own = unless _ (λ m. clash _ (higher-transitive base (key i) k m up) top.own);
  waits = λ u below e. by_case u below e (u == i) refl;
  among = inr (i, omega arith, waits, refl);
}
  where
    by_case : (u : ℕ) → u < i + 1 → next u ≡ Some t → (b : Bool) → u == i ≡ b → higher (key u) (key i) ≡ false
    by_case u below e true m = ap (λ n. higher (key n) (key i)) (eqb-true u i m) ∙ higher-irreflexive (key i)
    by_case u below e false m = unless _ (λ h. clash _ (higher-transitive (key u) (key i) k h up) (top.waits u (grind (arith, nat_tests)) e))

-- or it has not
pub top-keeps : (i : ℕ) (next : ℕ → Option ℕ) (key : ℕ → Key) (base : Key) (t : ℕ) (k : Key) → IsTop i next key base t k → (next i ≡ Some t → higher (key i) k ≡ false) → IsTop (i + 1) next key base t k
top-keeps i next key base t k top low = record {
  own = top.own;
  waits = λ u below e. by_case u below e (u == i) refl;
  among = widen top.among;
}
  where
    by_case : (u : ℕ) → u < i + 1 → next u ≡ Some t → (b : Bool) → u == i ≡ b → higher (key u) k ≡ false
    by_case u below e true m = let s : u ≡ i = eqb-true u i m in ap (λ n. higher (key n) k) s ∙ low (ap next (sym s) ∙ e)
    by_case u below e false m = top.waits u (grind (arith, nat_tests)) e

    widen : (k ≡ base) ⊎ ((u : ℕ) × (u < i) × (next u ≡ Some t) × (k ≡ key u)) → (k ≡ base) ⊎ ((u : ℕ) × (u < i + 1) × (next u ≡ Some t) × (k ≡ key u))
    widen (inl e) = inl e
    widen (inr q) = inr (q.0, omega (arith, q.1), q.2, q.3)

pub top-none : (next : ℕ → Option ℕ) (key : ℕ → Key) (base : Key) (t : ℕ) → IsTop 0 next key base t base
top-none next key base t = record {
  own = higher-irreflexive base;
  waits = λ u below e. absurd (omega arith);
  among = inl refl;
}

-- the same where the tasks that wait for it, their keys and the base key are the same
top-same : (room : ℕ) (next next' : ℕ → Option ℕ) (key key' : ℕ → Key) (base base' : Key) (t : ℕ) (k : Key) → IsTop room next key base t k → base' ≡ base → ((u : ℕ) → next' u ≡ Some t → (next u ≡ Some t) × (key' u ≡ key u)) → ((u : ℕ) → next u ≡ Some t → (next' u ≡ Some t) × (key' u ≡ key u)) → IsTop room next' key' base' t k
top-same room next next' key key' base base' t k top same back forth = record {
  own = ap (λ b. higher b k) same ∙ top.own;
  waits = λ u below e. ap (λ b. higher b k) (back u e).1 ∙ top.waits u below (back u e).0;
  among = moved top.among;
}
  where
    moved : (k ≡ base) ⊎ ((u : ℕ) × (u < room) × (next u ≡ Some t) × (k ≡ key u)) → (k ≡ base') ⊎ ((u : ℕ) × (u < room) × (next' u ≡ Some t) × (k ≡ key' u))
    moved (inl e) = inl (e ∙ sym same)
    moved (inr q) = inr (q.0, q.1, (forth q.0 q.2).0, q.3 ∙ sym (forth q.0 q.2).1)

-- ---- one step of a walk

pub waits_not : (nexts : List (Option ℕ)) → NoWalkComesRound nexts → (t : ℕ) → t < length nexts → next_of nexts t ≡ Some t → ⊥
waits_not nexts acyclic t below e = by_room (length nexts) refl
  where
    by_room : (n : ℕ) → length nexts ≡ n → ⊥
    by_room zero r = let z : t < 0 = subst (λ m. t < m) r below in omega arith
    by_room (suc n) r =
        let there : has t (walk (next_of nexts) (suc n) (next_of nexts t)) ≡ true = rw (e, equal_self t) in
        clash _ (subst (λ m. has t (walk (next_of nexts) m (next_of nexts t)) ≡ true) (sym r) there) (acyclic t)

pub settle-step : (bases : List (Option Key)) (nexts : List (Option ℕ)) (keys : List Key) (t : ℕ) (k : Key) → IsSettling bases nexts keys (Some t) → IsTop (length nexts) (next_of nexts) (key_at keys) (base_of bases t) t k → IsSettling bases nexts (set keys t k) (next_of nexts t)
settle-step bases nexts keys t k ok top = record {
  keys_length = length-set keys t k ∙ ok.keys_length;
  within = ok.within;
  acyclic = ok.acyclic;
  at_within = λ v e. ok.within t v e;
  local = λ u below away. by_case u below away (u == t) refl;
}
  where
    below_room : t < length nexts
    below_room = ok.at_within t refl

    own : key_at (set keys t k) t ≡ k
    own = get_or-set_same keys t k _ (omega (arith, ok.keys_length, below_room))

    kept : (u : ℕ) → u == t ≡ false → key_at (set keys t k) u ≡ key_at keys u
    kept u e = get_or-set_other keys t u k _ (other u t e)

    by_case : (u : ℕ) → u < length nexts → is u (next_of nexts t) ≡ false → (b : Bool) → u == t ≡ b → IsLocal bases nexts (set keys t k) u
    by_case u below away true e =
        let s : u ≡ t = eqb-true u t e in
        subst (λ n. IsLocal bases nexts (set keys t k) n) (sym s) (subst (λ j. IsTop (length nexts) (next_of nexts) (key_at (set keys t k)) (base_of bases t) t j) (sym own) (top-same _ _ _ _ _ _ _ _ _ top refl same same))
      where
        same : (v : ℕ) → next_of nexts v ≡ Some t → (next_of nexts v ≡ Some t) × (key_at (set keys t k) v ≡ key_at keys v)
        same v m = (m, kept v (unless _ (λ x. let r : v ≡ t = eqb-true v t x in waits_not nexts ok.acyclic t below_room (ap (next_of nexts) (sym r) ∙ m))))
    by_case u below away false e =
        subst (λ j. IsTop (length nexts) (next_of nexts) (key_at (set keys t k)) (base_of bases u) u j) (sym (kept u e)) (top-same _ _ _ _ _ _ _ _ _ (ok.local u below e) refl same same)
      where
        same : (v : ℕ) → next_of nexts v ≡ Some u → (next_of nexts v ≡ Some u) × (key_at (set keys t k) v ≡ key_at keys v)
        same v m = (m, kept v (unless _ (λ x. let r : v ≡ t = eqb-true v t x in clash _ (some-is u (next_of nexts t) (ap (next_of nexts) (sym r) ∙ m)) away)))

-- ---- the walk has ended

pub settled : (bases : List (Option Key)) (nexts : List (Option ℕ)) (keys : List Key) (o : Option ℕ) → IsSettling bases nexts keys o → o ≡ None → (t : ℕ) → t < length nexts → IsLocal bases nexts keys t
settled bases nexts keys o ok e t below = ok.local t below (ap (is t) e)

-- the task that the walk has come to has its key
pub settled-here : (bases : List (Option Key)) (nexts : List (Option ℕ)) (keys : List Key) (h : ℕ) → IsSettling bases nexts keys (Some h) → IsLocal bases nexts keys h → (t : ℕ) → t < length nexts → IsLocal bases nexts keys t
settled-here bases nexts keys h ok here t below = by_case (t == h) refl
  where
    by_case : (b : Bool) → t == h ≡ b → IsLocal bases nexts keys t
    by_case true m = subst (IsLocal bases nexts keys) (sym (eqb-true t h m)) here
    by_case false m = ok.local t below m

pub walked : (bases : List (Option Key)) (nexts : List (Option ℕ)) (keys : List Key) (start : Option ℕ) → IsSettling bases nexts keys start → after (next_of nexts) (length nexts) start ≡ None
walked bases nexts keys start ok = after-all (length nexts) (next_of nexts) ok.within ok.acyclic start ok.at_within

-- ---- where a walk begins

module _ (bases : List (Option Key)) (nexts : List (Option ℕ)) (boosts : List (Option Key)) (keys : List Key) (ok : IsInherit bases nexts boosts keys) where
  -- a new base key
  pub settle-base : (t : ℕ) (key : Key) → t < length nexts → IsSettling (set bases t (Some key)) nexts keys (Some t)
  settle-base t key below = record {
    keys_length = ok.keys_length;
    within = ok.within;
    acyclic = ok.acyclic;
    at_within = λ v e. let s : t ≡ v = cc in omega arith;
    local = λ u low away. top-same _ _ _ _ _ _ _ _ _ (ok.local u low) (based u away) (λ v m. (m, refl)) (λ v m. (m, refl));
  }
    where
      based : (u : ℕ) → u == t ≡ false → base_of (set bases t (Some key)) u ≡ base_of bases u
      based u e = ap (λ o. unwrap_or o lowest_key) (get_or-set_other bases t u (Some key) None (other u t e))

  next-cut : (t u v : ℕ) → next_of (set nexts t None) u ≡ Some v → (u == t ≡ false) × (next_of nexts u ≡ Some v)
  next-cut t u v e = by_case (u == t) refl
    where
      by_case : (b : Bool) → u == t ≡ b → (u == t ≡ false) × (next_of nexts u ≡ Some v)
      by_case false m = (m, sym (get_or-set_other nexts t u None None (other u t m)) ∙ e)
      by_case true m = absurd (gone (set_none nexts t) (ap (next_of (set nexts t None)) (sym (eqb-true u t m)) ∙ e))
        where
          gone : next_of (set nexts t None) t ≡ None → next_of (set nexts t None) t ≡ Some v → ⊥
          gone a b = let c : None ≡ Some v = sym a ∙ b in cc

          set_none : (ns : List (Option ℕ)) (i : ℕ) → next_of (set ns i None) i ≡ None
          set_none [] i = refl
          set_none (n ∷ ns) zero = refl
          set_none (n ∷ ns) (suc i) = set_none ns i

  walk-cut : (t s n : ℕ) (o : Option ℕ) → has s (walk (next_of (set nexts t None)) n o) ≡ true → has s (walk (next_of nexts) n o) ≡ true
  walk-cut t s zero o h = cc
  walk-cut t s (suc n) None h = cc
  walk-cut t s (suc n) (Some u) h = join (either (s == u) _ h) (walk-cut t s n (next_of (set nexts t None) u))
    where
      from : (o : Option ℕ) → next_of (set nexts t None) u ≡ o → has s (walk (next_of nexts) n o) ≡ true → has s (walk (next_of nexts) n (next_of nexts u)) ≡ true
      from None e k = absurd (empty n k)
        where
          empty : (m : ℕ) → has s (walk (next_of nexts) m None) ≡ true → ⊥
          empty zero x = cc
          empty (suc m) x = cc
      from (Some v) e k = subst (λ p. has s (walk (next_of nexts) n p) ≡ true) (sym (next-cut t u v e).1) k

      join : (s == u ≡ true) ⊎ (has s (walk (next_of (set nexts t None)) n (next_of (set nexts t None) u)) ≡ true) → (has s (walk (next_of (set nexts t None)) n (next_of (set nexts t None) u)) ≡ true → has s (walk (next_of nexts) n (next_of (set nexts t None) u)) ≡ true) → s == u || has s (walk (next_of nexts) n (next_of nexts u)) ≡ true
      join (inl m) r = rw m
      join (inr m) r = ap (λ b. s == u || b) (from (next_of (set nexts t None) u) refl (r m)) ∙ or_true (s == u)

  -- a task that waits no longer
  pub settle-cut : (t : ℕ) → IsSettling bases (set nexts t None) keys (next_of nexts t)
  settle-cut t = record {
    keys_length = ok.keys_length ∙ sym (length-set nexts t None);
    within = λ u v e. omega (arith, ok.within u v (next-cut t u v e).1, length-set {A = Option ℕ} nexts t None);
    acyclic = λ s. unless _ (λ h. clash _ (round s h) (ok.acyclic s));
    at_within = λ v e. omega (arith, ok.within t v e, length-set {A = Option ℕ} nexts t None);
    local = λ u low away. subst (λ n. IsTop n (next_of (set nexts t None)) (key_at keys) (base_of bases u) u (key_at keys u)) (sym (length-set nexts t None)) (top-same _ _ _ _ _ _ _ _ _ (ok.local u (omega (arith, length-set {A = Option ℕ} nexts t None))) refl (λ v m. ((next-cut t v u m).1, refl)) (λ v m. (stays u v away m, refl)));
  }
    where
      round : (s : ℕ) → has s (walk (next_of (set nexts t None)) (length (set nexts t None)) (next_of (set nexts t None) s)) ≡ true → has s (walk (next_of nexts) (length nexts) (next_of nexts s)) ≡ true
      round s h = from (next_of (set nexts t None) s) refl
        where
          cut : has s (walk (next_of nexts) (length nexts) (next_of (set nexts t None) s)) ≡ true
          cut = walk-cut t s (length nexts) (next_of (set nexts t None) s) (subst (λ n. has s (walk (next_of (set nexts t None)) n (next_of (set nexts t None) s)) ≡ true) (length-set nexts t None) h)

          from : (o : Option ℕ) → next_of (set nexts t None) s ≡ o → has s (walk (next_of nexts) (length nexts) (next_of nexts s)) ≡ true
          from None e = absurd (empty (length nexts) (subst (λ p. has s (walk (next_of nexts) (length nexts) p) ≡ true) e cut))
            where
              empty : (m : ℕ) → has s (walk (next_of nexts) m None) ≡ true → ⊥
              empty zero x = cc
              empty (suc m) x = cc
          from (Some v) e = subst (λ p. has s (walk (next_of nexts) (length nexts) p) ≡ true) (e ∙ sym (next-cut t s v e).1) cut

      stays : (u v : ℕ) → is u (next_of nexts t) ≡ false → next_of nexts v ≡ Some u → next_of (set nexts t None) v ≡ Some u
      stays u v away m = get_or-set_other nexts t v None None (λ s. clash _ (some-is u (next_of nexts t) (ap (next_of nexts) (sym s) ∙ m)) away) ∙ m

  -- where its key was lower, that of the task it waited for stays
  pub local-cut : (t h : ℕ) → next_of nexts t ≡ Some h → higher (key_at keys h) (key_at keys t) ≡ true → IsLocal bases (set nexts t None) keys h
  local-cut t h e lower = subst (λ n. IsTop n (next_of (set nexts t None)) (key_at keys) (base_of bases h) h (key_at keys h)) (sym (length-set nexts t None)) record {
    own = top.own;
    waits = λ u low m. top.waits u low (next-cut t u h m).1;
    among = stays top.among;
  }
    where
      top : IsLocal bases nexts keys h
      top = ok.local h (ok.within t h e)

      stays : (key_at keys h ≡ base_of bases h) ⊎ ((u : ℕ) × (u < length nexts) × (next_of nexts u ≡ Some h) × (key_at keys h ≡ key_at keys u)) → (key_at keys h ≡ base_of bases h) ⊎ ((u : ℕ) × (u < length nexts) × (next_of (set nexts t None) u ≡ Some h) × (key_at keys h ≡ key_at keys u))
      stays (inl m) = inl m
      stays (inr q) = inr (q.0, q.1, get_or-set_other nexts t q.0 None None (λ s. clash _ (ap (λ n. higher (key_at keys h) (key_at keys n)) s ∙ lower) (ap (higher (key_at keys h)) (sym q.3) ∙ higher-irreflexive (key_at keys h))) ∙ q.2, q.3)

  -- a task that waited for none waits for another
  pub settle-join : (t h : ℕ) → t < length nexts → h < length nexts → next_of nexts t ≡ None → NoWalkComesRound (set nexts t (Some h)) → IsSettling bases (set nexts t (Some h)) keys (Some h)
  settle-join t h below low free acyclic = record {
    keys_length = ok.keys_length ∙ sym (length-set nexts t (Some h));
    within = λ u v e. omega (arith, reach u v e (u == t) refl, length-set nexts t (Some h));
    acyclic = acyclic;
    at_within = λ v e. let s : h ≡ v = cc in omega (arith, length-set nexts t (Some h));
    local = λ u far away. subst (λ n. IsTop n (next_of (set nexts t (Some h))) (key_at keys) (base_of bases u) u (key_at keys u)) (sym (length-set nexts t (Some h))) (top-same _ _ _ _ _ _ _ _ _ (ok.local u (omega (arith, length-set nexts t (Some h)))) refl (λ v m. (came u v away m (v == t) refl, refl)) (λ v m. (stays u v m, refl)));
  }
    where
      new : next_of (set nexts t (Some h)) t ≡ Some h
      new = get_or-set_same nexts t (Some h) None below

      kept : (u : ℕ) → u == t ≡ false → next_of (set nexts t (Some h)) u ≡ next_of nexts u
      kept u e = get_or-set_other nexts t u (Some h) None (other u t e)

      reach : (u v : ℕ) → next_of (set nexts t (Some h)) u ≡ Some v → (b : Bool) → u == t ≡ b → v < length nexts
      reach u v e true m = let s : Some h ≡ Some v = sym new ∙ ap (next_of (set nexts t (Some h))) (sym (eqb-true u t m)) ∙ e in let r : h ≡ v = cc in omega (arith, low)
      reach u v e false m = ok.within u v (sym (kept u m) ∙ e)

      came : (u v : ℕ) → u == h ≡ false → next_of (set nexts t (Some h)) v ≡ Some u → (b : Bool) → v == t ≡ b → next_of nexts v ≡ Some u
      came u v away e true m = absurd (let s : Some h ≡ Some u = sym new ∙ ap (next_of (set nexts t (Some h))) (sym (eqb-true v t m)) ∙ e in let r : u ≡ h = cc in other u h away r)
      came u v away e false m = sym (kept v m) ∙ e

      stays : (u v : ℕ) → next_of nexts v ≡ Some u → next_of (set nexts t (Some h)) v ≡ Some u
      stays u v m = kept v (unless _ (λ x. let c : None ≡ Some u = sym free ∙ ap (next_of nexts) (sym (eqb-true v t x)) ∙ m in absurd (let z : true ≡ false = cc in clash true refl z))) ∙ m

-- ---- one task more, as the code tests it

module _ (nexts : List (Option TaskNo)) (i : ℕ) (key : ℕ → Key) (base : Key) (t : ℕ) (k : Key) (top : IsTop i (next_of (numbers_of_tasks nexts)) key base t k) where
  pub top-raised : is t (number_of_task (get_or nexts i None)) && higher (key i) k ≡ true → IsTop (i + 1) (next_of (numbers_of_tasks nexts)) key base t (key i)
  top-raised h =
      let p = both (is t (number_of_task (get_or nexts i None))) (higher (key i) k) h in
      top-higher i (next_of (numbers_of_tasks nexts)) key base t k top (next_of-numbers nexts i ∙ is-some t (number_of_task (get_or nexts i None)) p.0) p.1

  pub top-stayed : is t (number_of_task (get_or nexts i None)) && higher (key i) k ≡ false → IsTop (i + 1) (next_of (numbers_of_tasks nexts)) key base t k
  top-stayed h = top-keeps i (next_of (numbers_of_tasks nexts)) key base t k top (λ e. low (is t (number_of_task (get_or nexts i None))) (higher (key i) k) h (some-is t (number_of_task (get_or nexts i None)) (sym (next_of-numbers nexts i) ∙ e)))
    where
      low : (a b : Bool) → a && b ≡ false → a ≡ true → b ≡ false
      low true b x y = x
      low false b x y = cc

-- ---- the whole

-- the keys after a walk was followed to its end
pub inherit-of : (bases : List (Option Key)) (nexts : List (Option ℕ)) (boosts : List (Option Key)) (keys keys' : List Key) (at : Option ℕ) → IsSettling bases nexts keys at → length bases ≡ length nexts → length boosts ≡ length nexts → length keys' ≡ length nexts → ((t : ℕ) → t < length nexts → IsLocal bases nexts keys' t) → IsInherit bases nexts boosts keys'
inherit-of bases nexts boosts keys keys' at ok b o k local = record {
  bases_length = b;
  boosts_length = o;
  keys_length = k;
  within = ok.within;
  acyclic = ok.acyclic;
  local = local;
}

pub inherit-boost : (bases : List (Option Key)) (nexts : List (Option ℕ)) (boosts boosts' : List (Option Key)) (keys : List Key) → IsInherit bases nexts boosts keys → length boosts' ≡ length boosts → IsInherit bases nexts boosts' keys
inherit-boost bases nexts boosts boosts' keys ok e = record {
  bases_length = ok.bases_length;
  boosts_length = e ∙ ok.boosts_length;
  keys_length = ok.keys_length;
  within = ok.within;
  acyclic = ok.acyclic;
  local = ok.local;
}

-- the key that is kept of a task is the one that the definition gives
pub kept-highest : (bases : List (Option Key)) (nexts : List (Option ℕ)) (boosts : List (Option Key)) (keys : List Key) (t : ℕ) → IsInherit bases nexts boosts keys → t < length bases → key_at keys t ≡ highest (base_of bases t) (map (base_of bases) (followers (next_of nexts) (numbers_from 0 (length bases)) t))
kept-highest bases nexts boosts keys t ok below =
    kept-is (length nexts) (next_of nexts) ok.within ok.acyclic (base_of bases) (key_at keys) ok.local t (omega (arith, ok.bases_length))
    ∙ ap (λ n. highest (base_of bases t) (map (base_of bases) (followers (next_of nexts) (numbers_from 0 n) t))) (sym ok.bases_length)

-- a table of which no base key was told
module _ (n : ℕ) where
  none-next : (t : ℕ) → next_of (replicate n None) t ≡ None
  none-next t = gone n t
    where
      gone : (m i : ℕ) → next_of (replicate m None) i ≡ None
      gone zero i = refl
      gone (suc m) zero = refl
      gone (suc m) (suc i) = gone m i

  none-base : (t : ℕ) → base_of (replicate n None) t ≡ lowest_key
  none-base t = gone n t
    where
      gone : (m i : ℕ) → base_of (replicate m None) i ≡ lowest_key
      gone zero i = refl
      gone (suc m) zero = refl
      gone (suc m) (suc i) = gone m i

  size : {X : Type 0} (x : X) → length (replicate n x) ≡ n
  size x = length-replicate n x

  nothing : (t v : ℕ) → next_of (replicate n None) t ≡ Some v → ⊥
  nothing t v e = let c : None ≡ Some v = sym (none-next t) ∙ e in let z : true ≡ false = cc in clash true refl z

  pub inherit-none : IsInherit (replicate n None) (replicate n None) (replicate n None) (replicate n lowest_key)
  inherit-none = record {
    bases_length = size {X = Option Key} None ∙ sym (size {X = Option ℕ} None);
    boosts_length = size {X = Option Key} None ∙ sym (size {X = Option ℕ} None);
    keys_length = size lowest_key ∙ sym (size {X = Option ℕ} None);
    within = λ t v e. absurd (nothing t v e);
    acyclic = λ t. ap (λ o. has t (walk (next_of (replicate n None)) (length (replicate {A = Option ℕ} n None)) o)) (none-next t) ∙ empty t (length (replicate {A = Option ℕ} n None));
    local = λ t below. let own : key_at (replicate n lowest_key) t ≡ lowest_key = get_or-replicate n t lowest_key _ (omega (arith, size {X = Option ℕ} None)) in record {
      own = ap (λ b. higher b (key_at (replicate n lowest_key) t)) (none-base t) ∙ ap (higher lowest_key) own ∙ higher-irreflexive lowest_key;
      waits = λ u low e. absurd (nothing u t e);
      among = inl (own ∙ sym (none-base t));
    };
  }
    where
      empty : (t m : ℕ) → has t (walk (next_of (replicate n None)) m None) ≡ false
      empty t zero = refl
      empty t (suc m) = refl

-- ---- a walk, as the code follows it

module _ (bases : List (Option Key)) (os : List (Option TaskNo)) (keys : List Key) where
  pub walk-step : (t : ℕ) (k : Key) → IsSettling bases (numbers_of_tasks os) keys (Some t) → IsTop (length os) (next_of (numbers_of_tasks os)) (key_at keys) (base_of bases t) t k → IsSettling bases (numbers_of_tasks os) (set keys t k) (number_of_task (get_or os t None))
  walk-step t k ok top = subst (λ o. IsSettling bases (numbers_of_tasks os) (set keys t k) o) (next_of-numbers os t) (settle-step bases (numbers_of_tasks os) keys t k ok (subst (λ n. IsTop n (next_of (numbers_of_tasks os)) (key_at keys) (base_of bases t) t k) (sym (length-numbers os)) top))

  pub walk-came : (start : Option ℕ) (i t : ℕ) → after (next_of (numbers_of_tasks os)) i start ≡ Some t → after (next_of (numbers_of_tasks os)) (i + 1) start ≡ number_of_task (get_or os t None)
  walk-came start i t e = rw add-one (after-step (next_of (numbers_of_tasks os)) i t start e ∙ next_of-numbers os t)

  pub walk-end : (keys' : List Key) (start at : Option ℕ) (i : ℕ) → IsSettling bases (numbers_of_tasks os) keys' start → IsSettling bases (numbers_of_tasks os) keys at → after (next_of (numbers_of_tasks os)) i start ≡ at → i ≡ length os → (t : ℕ) → t < length (numbers_of_tasks os) → IsLocal bases (numbers_of_tasks os) keys t
  walk-end keys' start at i first ok came end =
      settled bases (numbers_of_tasks os) keys at ok (sym came ∙ ap (λ n. after (next_of (numbers_of_tasks os)) n start) (end ∙ sym (length-numbers os)) ∙ walked bases (numbers_of_tasks os) keys' start first)
