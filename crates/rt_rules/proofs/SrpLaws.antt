-- SRP: who holds after an act, and that a semaphore which is held once is held by the first of its pairs.
use Rattle.std.proofs.Common.{Bool, List, [], arith, cond, eqb-true, false, inl, inr, le-ltb, length, map, not, refl, sym, true, ℕ, ◌&&◌, ◌||◌, ◌∙◌, ◌∷◌, ◌≡◌, ◌≤◌, ◌⊎◌}
use Rattle.std.specs.Prelude.{None, Option, Some, filter, min, nat_lt, ◌==◌}
use Rattle.rt_rules.specs.Numbers.{first, has, is}
use Rattle.rt_rules.specs.Pcp.{TaskSem, is_same_pair, of_sem, without_pair}
use Rattle.rt_rules.specs.SemState.{Asks, Frees, Neither, SemAct}
use Rattle.rt_rules.specs.Srp.{least, srp_after}
use Rattle.rt_rules.proofs.BoolLaws.{both, clash, either, or_true}
use Rattle.rt_rules.proofs.MemberLaws.{equal_self, has-first, some-is}
use Rattle.rt_rules.proofs.PairLaws.{has-of_sem, has_pair, has_pair-without_pair, without_pair-keeps}

-- each semaphore is held by one task
abbrev pub IsHeldOnce : List TaskSem → Type 0
IsHeldOnce held = (t u s : ℕ) → has_pair t s held ≡ true → has_pair u s held ≡ true → t ≡ u

same_pair : (t s u r : ℕ) → t == u && s == r ≡ true → (t ≡ u) × (s ≡ r)
same_pair t s u r h = let q = both (t == u) (s == r) h in (eqb-true t u q.0, eqb-true s r q.1)

-- who holds after an act held before it, or asks in it
pub srp-held : (t s : ℕ) (x : SemAct) (held : List TaskSem) → has_pair t s (srp_after x held) ≡ true → (has_pair t s held ≡ true) ⊎ (x ≡ Asks t s)
srp-held t s (Asks u r) held h = split (either (t == u && s == r) (has_pair t s held) h)
  where
    split : (t == u && s == r ≡ true) ⊎ (has_pair t s held ≡ true) → (has_pair t s held ≡ true) ⊎ (Asks u r ≡ Asks t s)
    split (inl m) = let e = same_pair t s u r m in inr (rw (e.0, e.1))
    split (inr m) = inl m
srp-held t s (Frees u r) held h = inl (has_pair-without_pair t s (record { task = u; sem = r }) held h)
srp-held t s Neither held h = inl h

-- who asks holds
pub srp-asked : (t s : ℕ) (x : SemAct) (held : List TaskSem) → x ≡ Asks t s → has_pair t s (srp_after x held) ≡ true
srp-asked t s x held e = rw (e, equal_self t, equal_self s)

-- who holds goes on until it frees
pub srp-holds : (t s : ℕ) (x : SemAct) (held : List TaskSem) → has_pair t s held ≡ true → (has_pair t s (srp_after x held) ≡ true) ⊎ (x ≡ Frees t s)
srp-holds t s (Asks u r) held h = inl (rw h (or_true (t == u && s == r)))
srp-holds t s (Frees u r) held h = by_case (t == u && s == r) refl
  where
    by_case : (b : Bool) → t == u && s == r ≡ b → (has_pair t s (srp_after (Frees u r) held) ≡ true) ⊎ (Frees u r ≡ Frees t s)
    by_case true e = let same = same_pair t s u r e in inr (rw (same.0, same.1))
    by_case false e = inl (without_pair-keeps t s (record { task = u; sem = r }) held e h)
srp-holds t s Neither held h = inl h

-- the holder stands among the pairs
pub first-srp : (t s : ℕ) (held : List TaskSem) → is t (first (of_sem s held)) ≡ true → has_pair t s held ≡ true
first-srp t s held h = sym (has-of_sem t s held) ∙ has-first t (of_sem s held) h

-- and who holds is the first of them
pub srp-first : (t s : ℕ) (held : List TaskSem) → IsHeldOnce held → has_pair t s held ≡ true → is t (first (of_sem s held)) ≡ true
srp-first t s held once h = by_case (first (of_sem s held)) refl
  where
    none_there : (xs : List ℕ) → first xs ≡ None → has t xs ≡ true → ⊥
    none_there [] e m = cc
    none_there (x ∷ xs) e m = cc

    by_case : (o : Option ℕ) → first (of_sem s held) ≡ o → is t (first (of_sem s held)) ≡ true
    by_case None e = absurd (none_there (of_sem s held) e (rw has-of_sem h))
    by_case (Some u) e =
        let same : t ≡ u = once t u s h (first-srp u s held (some-is u (first (of_sem s held)) e)) in
        rw (e, same, equal_self u)

-- ---- the ceiling

least-below : (d : ℕ) (xs : List ℕ) → least d xs ≤ d
least-below d [] = omega arith
least-below d (x ∷ xs) = let h = least-below (min d x) xs in omega (arith, h)

-- the least is below no member
pub least-of : (f : ℕ → ℕ) (t : ℕ) (us : List ℕ) (d : ℕ) → has t us ≡ true → nat_lt (f t) (least d (map f us)) ≡ false
least-of f t [] d h = cc
least-of f t (u ∷ us) d h = split (either (t == u) (has t us) h) (least-of f t us (min d (f u)))
  where
    split : (t == u ≡ true) ⊎ (has t us ≡ true) → (has t us ≡ true → nat_lt (f t) (least (min d (f u)) (map f us)) ≡ false) → nat_lt (f t) (least (min d (f u)) (map f us)) ≡ false
    split (inl m) rec = let same : t ≡ u = eqb-true t u m in rw same (le-ltb (f u) (least (min d (f u)) (map f us)) (let k = least-below (min d (f u)) (map f us) in omega (arith, k)))
    split (inr m) rec = rec m

-- ---- how often a semaphore stands among what is held

length-without : (s : ℕ) (p : TaskSem) (held : List TaskSem) → length (of_sem s (without_pair p held)) ≤ length (of_sem s held)
length-without s p [] = omega arith
length-without s p (q ∷ held) = by_cases (is_same_pair p q) (q.sem == s) refl (length-without s p held)
  where
    by_cases : (a b : Bool) → q.sem == s ≡ b → length (of_sem s (without_pair p held)) ≤ length (of_sem s held) → length (of_sem s (cond (not a) (q ∷ without_pair p held) (without_pair p held))) ≤ length (map (λ (x : TaskSem). x.task) (cond b (q ∷ filter (λ x. x.sem == s) held) (filter (λ x. x.sem == s) held)))
    by_cases true true e h = omega (arith, h)
    by_cases true false e h = omega (arith, h)
    by_cases false true e h = rw e (omega (arith, h))
    by_cases false false e h = rw e (omega (arith, h))

-- one that is free when it is asked for stands once at most
pub srp-once : (s : ℕ) (x : SemAct) (held : List TaskSem) → ((t : ℕ) → x ≡ Asks t s → of_sem s held ≡ []) → length (of_sem s held) ≤ 1 → length (of_sem s (srp_after x held)) ≤ 1
srp-once s (Asks t r) held free h = by_case (r == s) refl
  where
    by_case : (b : Bool) → r == s ≡ b → length (map (λ (y : TaskSem). y.task) (cond b (record { task = t; sem = r } ∷ filter (λ y. y.sem == s) held) (filter (λ y. y.sem == s) held))) ≤ 1
    by_case true e = let none : of_sem s held ≡ [] = free t (let same : r ≡ s = eqb-true r s e in rw same) in rw none (omega arith)
    by_case false e = h
srp-once s (Frees t r) held free h = omega (arith, h, length-without s (record { task = t; sem = r }) held)
srp-once s Neither held free h = h

-- a list with no member
pub nothing-there : (xs : List ℕ) → ((x : ℕ) → has x xs ≡ true → ⊥) → xs ≡ []
nothing-there [] h = refl
nothing-there (x ∷ xs) h = absurd (h x (rw (equal_self x)))
