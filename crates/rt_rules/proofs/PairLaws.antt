-- Lists of pairs of a task and a semaphore.
use Rattle.std.proofs.Common.{Bool, List, [], ap, arith, cond, eqb-true, false, inl, inr, length, map, not, refl, sym, true, ℕ, ◌&&◌, ◌++◌, ◌+◌, ◌||◌, ◌∙◌, ◌∷◌, ◌≡◌, ◌≤◌, ◌⊎◌}
use Rattle.std.specs.Prelude.{filter, is_none, ◌==◌}
use Rattle.rt_rules.specs.Distinct.{IsDistinct}
use Rattle.rt_rules.specs.Numbers.{first, has}
use Rattle.rt_rules.specs.Pcp.{TaskSem, by_key, in_order, is_same_pair, of_others, of_sem, without_pair}
use Rattle.rt_rules.proofs.BoolLaws.{both, clash, either, neither, or_true, unless, or_assoc, or_else, and_true, and_false}
use Rattle.rt_rules.proofs.MemberLaws.{equal_self, turned}

-- whether the pair of t and s is in the list
abbrev pub has_pair : ℕ → ℕ → List TaskSem → Bool
has_pair t s [] = false
has_pair t s (p ∷ ps) = (t == p.task && s == p.sem) || has_pair t s ps

-- the tasks of the pairs of a semaphore
pub has-of_sem : (t s : ℕ) (ps : List TaskSem) → has t (of_sem s ps) ≡ has_pair t s ps
has-of_sem t s [] = refl
has-of_sem t s (p ∷ ps) = by_case (p.sem == s) (s == p.sem) (turned p.sem s) (has-of_sem t s ps)
  where
    by_case : (a b : Bool) → a ≡ b → has t (of_sem s ps) ≡ has_pair t s ps → has t (map (λ (x : TaskSem). x.task) (cond a (p ∷ filter (λ x. x.sem == s) ps) (filter (λ x. x.sem == s) ps))) ≡ (t == p.task && b) || has_pair t s ps
    by_case true true e h = rw (and_true, h)
    by_case false false e h = rw (and_false) h
    by_case true false e h = cc
    by_case false true e h = cc

-- what stands in the list without a pair stood in it
pub has_pair-without_pair : (t s : ℕ) (p : TaskSem) (ps : List TaskSem) → has_pair t s (without_pair p ps) ≡ true → has_pair t s ps ≡ true
has_pair-without_pair t s p [] h = cc
has_pair-without_pair t s p (q ∷ qs) h = by_case (is_same_pair p q) h (has_pair-without_pair t s p qs)
  where
    by_case : (b : Bool) → has_pair t s (cond (not b) (q ∷ without_pair p qs) (without_pair p qs)) ≡ true → (has_pair t s (without_pair p qs) ≡ true → has_pair t s qs ≡ true) → (t == q.task && s == q.sem) || has_pair t s qs ≡ true
    by_case true k r = rw (r k) (or_true _)
    by_case false k r = join (either _ _ k)
      where
        join : (t == q.task && s == q.sem ≡ true) ⊎ (has_pair t s (without_pair p qs) ≡ true) → (t == q.task && s == q.sem) || has_pair t s qs ≡ true
        join (inl m) = rw m
        join (inr m) = rw (r m) (or_true _)

-- a pair of two lists joined
pub has_pair-append : (t s : ℕ) (ps qs : List TaskSem) → has_pair t s (ps ++ qs) ≡ has_pair t s ps || has_pair t s qs
has_pair-append t s [] qs = refl
has_pair-append t s (p ∷ ps) qs = rw (has_pair-append t s ps qs) (or_assoc (t == p.task && s == p.sem) (has_pair t s ps) (has_pair t s qs))

-- another pair stays
pub without_pair-keeps : (t s : ℕ) (p : TaskSem) (ps : List TaskSem) → (t == p.task && s == p.sem) ≡ false → has_pair t s ps ≡ true → has_pair t s (without_pair p ps) ≡ true
without_pair-keeps t s p [] ne h = cc
without_pair-keeps t s p (q ∷ qs) ne h = by_case (is_same_pair p q) refl (either (t == q.task && s == q.sem) _ h) (without_pair-keeps t s p qs ne)
  where
    by_case : (b : Bool) → is_same_pair p q ≡ b → (t == q.task && s == q.sem ≡ true) ⊎ (has_pair t s qs ≡ true) → (has_pair t s qs ≡ true → has_pair t s (without_pair p qs) ≡ true) → has_pair t s (cond (not b) (q ∷ without_pair p qs) (without_pair p qs)) ≡ true
    by_case true e (inl m) r =
        let a = both (p.task == q.task) (p.sem == q.sem) e in
        let b = both (t == q.task) (s == q.sem) m in
        let same_task : t ≡ p.task = eqb-true t q.task b.0 ∙ sym (eqb-true p.task q.task a.0) in
        let same_sem : s ≡ p.sem = eqb-true s q.sem b.1 ∙ sym (eqb-true p.sem q.sem a.1) in
        let n : p.task == p.task && p.sem == p.sem ≡ false = rw (same_task, same_sem) at ne in
        let o : p.task == p.task && p.sem == p.sem ≡ true = rw (equal_self p.task, equal_self p.sem) in
        absurd (clash _ o n)
    by_case true e (inr m) r = r m
    by_case false e (inl m) r = rw m
    by_case false e (inr m) r = rw (r m) (or_true (t == q.task && s == q.sem))

-- ---- in falling order of keys

pub has_pair-by_key : (above : ℕ → ℕ → Bool) (t s : ℕ) (p : TaskSem) (qs : List TaskSem) → has_pair t s (by_key above p qs) ≡ (t == p.task && s == p.sem) || has_pair t s qs
has_pair-by_key above t s p [] = refl
has_pair-by_key above t s p (q ∷ qs) = by_case (above p.task q.task) (has_pair-by_key above t s p qs)
  where
    middle : (a x u : Bool) → a || (x || u) ≡ x || (a || u)
    middle true true u = refl
    middle true false u = refl
    middle false x u = refl

    by_case : (b : Bool) → has_pair t s (by_key above p qs) ≡ (t == p.task && s == p.sem) || has_pair t s qs → has_pair t s (cond b (p ∷ q ∷ qs) (q ∷ by_key above p qs)) ≡ (t == p.task && s == p.sem) || ((t == q.task && s == q.sem) || has_pair t s qs)
    by_case true h = refl
    by_case false h = rw h (middle (t == q.task && s == q.sem) (t == p.task && s == p.sem) (has_pair t s qs))

-- an order has the same pairs
pub has_pair-in_order : (above : ℕ → ℕ → Bool) (t s : ℕ) (ps : List TaskSem) → has_pair t s (in_order above ps) ≡ has_pair t s ps
has_pair-in_order above t s [] = refl
has_pair-in_order above t s (p ∷ ps) = has_pair-by_key above t s p (in_order above ps) ∙ ap (λ b. (t == p.task && s == p.sem) || b) (has_pair-in_order above t s ps)

-- a pair that is taken out is gone
pub without_pair-gone : (p : TaskSem) (ps : List TaskSem) → has_pair p.task p.sem (without_pair p ps) ≡ false
without_pair-gone p [] = refl
without_pair-gone p (q ∷ qs) = by_case (p.task == q.task) (p.sem == q.sem) refl refl (without_pair-gone p qs)
  where
    by_case : (a b : Bool) → p.task == q.task ≡ a → p.sem == q.sem ≡ b → has_pair p.task p.sem (without_pair p qs) ≡ false → has_pair p.task p.sem (cond (not (a && b)) (q ∷ without_pair p qs) (without_pair p qs)) ≡ false
    by_case true true e k h = h
    by_case true false e k h = rw (e, k) h
    by_case false b e k h = rw e h

-- a pair of the others is one of the list
pub has_pair-others : (t u s : ℕ) (ps : List TaskSem) → has_pair u s (of_others t ps) ≡ true → has_pair u s ps ≡ true
has_pair-others t u s [] h = h
has_pair-others t u s (p ∷ ps) h = by_case (p.task == t) h (has_pair-others t u s ps)
  where
    by_case : (b : Bool) → has_pair u s (cond (not b) (p ∷ of_others t ps) (of_others t ps)) ≡ true → (has_pair u s (of_others t ps) ≡ true → has_pair u s ps ≡ true) → (u == p.task && s == p.sem) || has_pair u s ps ≡ true
    by_case true k r = rw (r k) (or_true (u == p.task && s == p.sem))
    by_case false k r = split (either (u == p.task && s == p.sem) _ k)
      where
        split : (u == p.task && s == p.sem ≡ true) ⊎ (has_pair u s (of_others t ps) ≡ true) → (u == p.task && s == p.sem) || has_pair u s ps ≡ true
        split (inl m) = rw m
        split (inr m) = rw (r m) (or_true (u == p.task && s == p.sem))

-- a semaphore of the list has a task
pub sem-there : (r : ℕ) (ps : List TaskSem) → has r (map (λ (p : TaskSem). p.sem) ps) ≡ true → is_none (first (of_sem r ps)) ≡ false
sem-there r [] h = cc
sem-there r (p ∷ ps) h = by_case (p.sem == r) (turned r p.sem) h (sem-there r ps)
  where
    by_case : (b : Bool) → r == p.sem ≡ b → r == p.sem || has r (map (λ (q : TaskSem). q.sem) ps) ≡ true → (has r (map (λ (q : TaskSem). q.sem) ps) ≡ true → is_none (first (of_sem r ps)) ≡ false) → is_none (first (map (λ (q : TaskSem). q.task) (cond b (p ∷ filter (λ q. q.sem == r) ps) (filter (λ q. q.sem == r) ps)))) ≡ false
    by_case true e k rec = refl
    by_case false e k rec = rec (or_else (r == p.sem) _ k e)

-- ---- the tasks of pairs

-- the tasks of a list of pairs
abbrev pub tasks_of_pairs : List TaskSem → List ℕ
tasks_of_pairs ps = map (λ (p : TaskSem). p.task) ps

-- a task of the list has a pair
pub pair-of : (t : ℕ) (ps : List TaskSem) → has t (tasks_of_pairs ps) ≡ true → (s : ℕ) × (has_pair t s ps ≡ true)
pair-of t [] h = cc
pair-of t (p ∷ ps) h = split (either (t == p.task) _ h) (pair-of t ps)
  where
    split : (t == p.task ≡ true) ⊎ (has t (tasks_of_pairs ps) ≡ true) → (has t (tasks_of_pairs ps) ≡ true → (s : ℕ) × (has_pair t s ps ≡ true)) → (s : ℕ) × (has_pair t s (p ∷ ps) ≡ true)
    split (inl k) r = (p.sem, rw (k, equal_self p.sem))
    split (inr k) r = let q = r k in (q.0, rw q.1 (or_true (t == p.task && q.0 == p.sem)))

-- the tasks with one more pair
pub tasks-append : (ps : List TaskSem) (t s : ℕ) → tasks_of_pairs (ps ++ record { task = t; sem = s } ∷ []) ≡ tasks_of_pairs ps ++ t ∷ []
tasks-append [] t s = refl
tasks-append (p ∷ ps) t s = ap (λ xs. p.task ∷ xs) (tasks-append ps t s)

has-without_pair : (t : ℕ) (p : TaskSem) (ps : List TaskSem) → has t (tasks_of_pairs (without_pair p ps)) ≡ true → has t (tasks_of_pairs ps) ≡ true
has-without_pair t p [] h = cc
has-without_pair t p (q ∷ qs) h = by_case (is_same_pair p q) h (has-without_pair t p qs)
  where
    by_case : (b : Bool) → has t (tasks_of_pairs (cond (not b) (q ∷ without_pair p qs) (without_pair p qs))) ≡ true → (has t (tasks_of_pairs (without_pair p qs)) ≡ true → has t (tasks_of_pairs qs) ≡ true) → t == q.task || has t (tasks_of_pairs qs) ≡ true
    by_case true k r = rw (r k) (or_true (t == q.task))
    by_case false k r = split (either (t == q.task) _ k)
      where
        split : (t == q.task ≡ true) ⊎ (has t (tasks_of_pairs (without_pair p qs)) ≡ true) → t == q.task || has t (tasks_of_pairs qs) ≡ true
        split (inl m) = rw m
        split (inr m) = rw (r m) (or_true (t == q.task))

-- each task once, also without a pair
pub distinct-without_pair : (p : TaskSem) (ps : List TaskSem) → IsDistinct (tasks_of_pairs ps) → IsDistinct (tasks_of_pairs (without_pair p ps))
distinct-without_pair p [] d = tt
distinct-without_pair p (q ∷ qs) d = by_case (is_same_pair p q) (distinct-without_pair p qs d.1)
  where
    by_case : (b : Bool) → IsDistinct (tasks_of_pairs (without_pair p qs)) → IsDistinct (tasks_of_pairs (cond (not b) (q ∷ without_pair p qs) (without_pair p qs)))
    by_case true r = r
    by_case false r = (unless _ (λ h. clash _ (has-without_pair q.task p qs h) d.0), r)

-- a pair that is taken out shortens the list
pub length-without_pair : (t s : ℕ) (ps : List TaskSem) → has_pair t s ps ≡ true → length (without_pair (record { task = t; sem = s }) ps) + 1 ≤ length ps
length-without_pair t s [] h = cc
length-without_pair t s (p ∷ ps) h = by_case (t == p.task && s == p.sem) h (length-without_pair t s ps) (fewer ps)
  where
    fewer : (qs : List TaskSem) → length (without_pair (record { task = t; sem = s }) qs) ≤ length qs
    fewer [] = omega arith
    fewer (q ∷ qs) = at (t == q.task && s == q.sem) (fewer qs)
      where
        at : (b : Bool) → length (without_pair (record { task = t; sem = s }) qs) ≤ length qs → length (cond (not b) (q ∷ without_pair (record { task = t; sem = s }) qs) (without_pair (record { task = t; sem = s }) qs)) ≤ length (q ∷ qs)
        at true k = omega arith
        at false k = omega arith

    by_case : (b : Bool) → b || has_pair t s ps ≡ true → (has_pair t s ps ≡ true → length (without_pair (record { task = t; sem = s }) ps) + 1 ≤ length ps) → length (without_pair (record { task = t; sem = s }) ps) ≤ length ps → length (cond (not b) (p ∷ without_pair (record { task = t; sem = s }) ps) (without_pair (record { task = t; sem = s }) ps)) + 1 ≤ length (p ∷ ps)
    by_case true k r m = omega arith
    by_case false k r m = omega (arith, r k)

-- what an insertion adds
pub has-by_key : (before : ℕ → ℕ → Bool) (t : ℕ) (p : TaskSem) (qs : List TaskSem) → has t (tasks_of_pairs (by_key before p qs)) ≡ true → (t ≡ p.task) ⊎ (has t (tasks_of_pairs qs) ≡ true)
has-by_key before t p [] h = split (either (t == p.task) false h)
  where
    split : (t == p.task ≡ true) ⊎ (false ≡ true) → (t ≡ p.task) ⊎ (false ≡ true)
    split (inl k) = inl (eqb-true t p.task k)
    split (inr k) = inr k
has-by_key before t p (q ∷ qs) h = by_case (before p.task q.task) h (has-by_key before t p qs)
  where
    by_case : (b : Bool) → has t (tasks_of_pairs (cond b (p ∷ q ∷ qs) (q ∷ by_key before p qs))) ≡ true → (has t (tasks_of_pairs (by_key before p qs)) ≡ true → (t ≡ p.task) ⊎ (has t (tasks_of_pairs qs) ≡ true)) → (t ≡ p.task) ⊎ (t == q.task || has t (tasks_of_pairs qs) ≡ true)
    by_case true k r = split (either (t == p.task) _ k)
      where
        split : (t == p.task ≡ true) ⊎ (t == q.task || has t (tasks_of_pairs qs) ≡ true) → (t ≡ p.task) ⊎ (t == q.task || has t (tasks_of_pairs qs) ≡ true)
        split (inl m) = inl (eqb-true t p.task m)
        split (inr m) = inr m
    by_case false k r = split (either (t == q.task) _ k)
      where
        deeper : (t ≡ p.task) ⊎ (has t (tasks_of_pairs qs) ≡ true) → (t ≡ p.task) ⊎ (t == q.task || has t (tasks_of_pairs qs) ≡ true)
        deeper (inl m) = inl m
        deeper (inr m) = inr (rw m (or_true (t == q.task)))

        split : (t == q.task ≡ true) ⊎ (has t (tasks_of_pairs (by_key before p qs)) ≡ true) → (t ≡ p.task) ⊎ (t == q.task || has t (tasks_of_pairs qs) ≡ true)
        split (inl m) = inr (rw m)
        split (inr m) = deeper (r m)

pub distinct-by_key : (before : ℕ → ℕ → Bool) (p : TaskSem) (qs : List TaskSem) → has p.task (tasks_of_pairs qs) ≡ false → IsDistinct (tasks_of_pairs qs) → IsDistinct (tasks_of_pairs (by_key before p qs))
distinct-by_key before p [] n d = (refl, tt)
distinct-by_key before p (q ∷ qs) n d = by_case (before p.task q.task) (neither (p.task == q.task) _ n) (distinct-by_key before p qs)
  where
    apart : p.task == q.task ≡ false → (q.task ≡ p.task) ⊎ (has q.task (tasks_of_pairs qs) ≡ true) → ⊥
    apart ne (inl e) = let m : p.task == p.task ≡ false = rw e at ne in clash _ (equal_self p.task) m
    apart ne (inr m) = clash _ m d.0

    by_case : (b : Bool) → (p.task == q.task ≡ false) × (has p.task (tasks_of_pairs qs) ≡ false) → (has p.task (tasks_of_pairs qs) ≡ false → IsDistinct (tasks_of_pairs qs) → IsDistinct (tasks_of_pairs (by_key before p qs))) → IsDistinct (tasks_of_pairs (cond b (p ∷ q ∷ qs) (q ∷ by_key before p qs)))
    by_case true k r = (n, d)
    by_case false k r = (unless _ (λ h. apart k.0 (has-by_key before q.task p qs h)), r k.1 d.1)

pub has-in_order : (before : ℕ → ℕ → Bool) (t : ℕ) (ps : List TaskSem) → has t (tasks_of_pairs (in_order before ps)) ≡ true → has t (tasks_of_pairs ps) ≡ true
has-in_order before t [] h = h
has-in_order before t (p ∷ ps) h = split (has-by_key before t p (in_order before ps) h) (has-in_order before t ps)
  where
    split : (t ≡ p.task) ⊎ (has t (tasks_of_pairs (in_order before ps)) ≡ true) → (has t (tasks_of_pairs (in_order before ps)) ≡ true → has t (tasks_of_pairs ps) ≡ true) → t == p.task || has t (tasks_of_pairs ps) ≡ true
    split (inl e) r = rw (e, equal_self p.task)
    split (inr k) r = rw (r k) (or_true (t == p.task))

-- each task once, also in order
pub distinct-in_order : (before : ℕ → ℕ → Bool) (ps : List TaskSem) → IsDistinct (tasks_of_pairs ps) → IsDistinct (tasks_of_pairs (in_order before ps))
distinct-in_order before [] d = tt
distinct-in_order before (p ∷ ps) d = distinct-by_key before p (in_order before ps) (unless _ (λ h. clash _ (has-in_order before p.task ps h) d.0)) (distinct-in_order before ps d.1)
