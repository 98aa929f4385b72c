-- PCP: each held pair stands once and is not waited for, and each grant takes one waiting request.
use Rattle.std.proofs.Common.{Bool, List, [], ap, arith, cond, eqb-true, false, inl, inr, length, map, not, refl, sym, true, ℕ, ◌&&◌, ◌++◌, ◌+◌, ◌||◌, ◌∙◌, ◌∷◌, ◌≡◌, ◌≤◌, ◌⊎◌}
use Rattle.std.specs.Prelude.{filter, if◌then◌else◌, ◌==◌}
use Rattle.rt_rules.specs.Distinct.{IsDistinct}
use Rattle.rt_rules.specs.Numbers.{has}
use Rattle.rt_rules.specs.Pcp.{PcpState, TaskSem, granted, in_order, is_same_pair, of_sem, passes, pcp_after, tested, without_pair}
use Rattle.rt_rules.specs.SemState.{Asks, Frees, Neither, SemAct}
use Rattle.rt_rules.proofs.BoolLaws.{both, clash, either, or_false, or_true, unless}
use Rattle.rt_rules.proofs.MemberLaws.{equal_self}
use Rattle.rt_rules.proofs.PairLaws.{distinct-in_order, distinct-without_pair, has-of_sem, has_pair, has_pair-append, has_pair-in_order, has_pair-without_pair, tasks_of_pairs, without_pair-gone, without_pair-keeps}

pub record IsOnce (l : PcpState) : Type 0 where
  pub once : (s : ℕ) → IsDistinct (of_sem s l.held)
  pub apart : (t s : ℕ) → has_pair t s l.waiting ≡ true → has_pair t s l.held ≡ false

-- ---- one pair more or less

pair-task : (t s : ℕ) (ps : List TaskSem) → has_pair t s ps ≡ true → has t (tasks_of_pairs ps) ≡ true
pair-task t s [] h = cc
pair-task t s (p ∷ ps) h = split (either (t == p.task && s == p.sem) _ h) (pair-task t s ps)
  where
    split : (t == p.task && s == p.sem ≡ true) ⊎ (has_pair t s ps ≡ true) → (has_pair t s ps ≡ true → has t (tasks_of_pairs ps) ≡ true) → t == p.task || has t (tasks_of_pairs ps) ≡ true
    split (inl k) r = let same : t == p.task ≡ true = (both (t == p.task) (s == p.sem) k).0 in rw same
    split (inr k) r = rw (r k) (or_true (t == p.task))

-- a pair of a task that is not among those of the list is another one
other-pair : (t s : ℕ) (p : TaskSem) (ps : List TaskSem) → has p.task (tasks_of_pairs ps) ≡ false → has_pair t s ps ≡ true → (t == p.task && s == p.sem) ≡ false
other-pair t s p ps none h = unless _ (λ m. let same : t ≡ p.task = eqb-true t p.task (both _ _ m).0 in let k : has p.task (tasks_of_pairs ps) ≡ true = rw same at (pair-task t s ps h) in clash _ k none)

once-cons : (p : TaskSem) (ps : List TaskSem) → ((s : ℕ) → IsDistinct (of_sem s ps)) → has_pair p.task p.sem ps ≡ false → (s : ℕ) → IsDistinct (of_sem s (p ∷ ps))
once-cons p ps d fresh s = by_case (p.sem == s) refl
  where
    by_case : (b : Bool) → p.sem == s ≡ b → IsDistinct (map (λ (x : TaskSem). x.task) (cond b (p ∷ filter (λ x. x.sem == s) ps) (filter (λ x. x.sem == s) ps)))
    by_case true e = let same : p.sem ≡ s = eqb-true p.sem s e in (has-of_sem p.task s ps ∙ rw same at fresh, d s)
    by_case false e = d s

once-without : (p : TaskSem) (s : ℕ) (ps : List TaskSem) → IsDistinct (of_sem s ps) → IsDistinct (of_sem s (without_pair p ps))
once-without p s [] d = tt
once-without p s (q ∷ qs) d = by_cases (is_same_pair p q) (q.sem == s) refl d (once-without p s qs)
  where
    by_cases : (a b : Bool) → q.sem == s ≡ b → IsDistinct (map (λ (x : TaskSem). x.task) (cond b (q ∷ filter (λ x. x.sem == s) qs) (filter (λ x. x.sem == s) qs))) → (IsDistinct (of_sem s qs) → IsDistinct (of_sem s (without_pair p qs))) → IsDistinct (of_sem s (cond (not a) (q ∷ without_pair p qs) (without_pair p qs)))
    by_cases true true e k r = r k.1
    by_cases true false e k r = r k
    by_cases false true e k r = rw e (unless _ (λ h. clash _ (has-of_sem q.task s qs ∙ has_pair-without_pair q.task s p qs (sym (has-of_sem q.task s (without_pair p qs)) ∙ h)) k.0), r k.1)
    by_cases false false e k r = rw e (r k)

without-none : (p : TaskSem) (ps : List TaskSem) → has p.task (tasks_of_pairs ps) ≡ false → without_pair p ps ≡ ps
without-none p [] h = refl
without-none p (q ∷ qs) h = by_case (p.task == q.task) h (without-none p qs)
  where
    by_case : (b : Bool) → b || has p.task (tasks_of_pairs qs) ≡ false → (has p.task (tasks_of_pairs qs) ≡ false → without_pair p qs ≡ qs) → cond (not (b && p.sem == q.sem)) (q ∷ without_pair p qs) (without_pair p qs) ≡ q ∷ qs
    by_case true k r = cc
    by_case false k r = ap (λ xs. q ∷ xs) (r k)

length-taken : (p : TaskSem) (ps : List TaskSem) → IsDistinct (tasks_of_pairs ps) → has_pair p.task p.sem ps ≡ true → length (without_pair p ps) + 1 ≡ length ps
length-taken p [] d h = cc
length-taken p (q ∷ qs) d h = by_case (is_same_pair p q) refl h (length-taken p qs d.1)
  where
    by_case : (b : Bool) → is_same_pair p q ≡ b → b || has_pair p.task p.sem qs ≡ true → (has_pair p.task p.sem qs ≡ true → length (without_pair p qs) + 1 ≡ length qs) → length (cond (not b) (q ∷ without_pair p qs) (without_pair p qs)) + 1 ≡ length (q ∷ qs)
    by_case true e k r =
        let same : p.task ≡ q.task = eqb-true p.task q.task (both _ _ e).0 in
        let none : has p.task (tasks_of_pairs qs) ≡ false = rw same d.0 in
        rw (without-none p qs none) (omega arith)
    by_case false e k r = omega (arith, r k)

-- ---- what PCP does

granted-once : (p : TaskSem) (l : PcpState) → IsOnce l → has_pair p.task p.sem l.waiting ≡ true → IsOnce (granted p l)
granted-once p l o h = record {
  once = once-cons p l.held o.once (o.apart p.task p.sem h);
  apart = λ t s k. rw (other t s k) (o.apart t s (has_pair-without_pair t s p l.waiting k));
}
  where
    other : (t s : ℕ) → has_pair t s (without_pair p l.waiting) ≡ true → (t == p.task && s == p.sem) ≡ false
    other t s k = unless _ (λ m.
        let same : t ≡ p.task = eqb-true t p.task (both _ _ m).0 in
        let same_sem : s ≡ p.sem = eqb-true s p.sem (both _ _ m).1 in
        clash _ (rw (same, same_sem) at k) (without_pair-gone p l.waiting))

-- after the tries, in whatever order: a grant takes one request
pub record IsTried (l after : PcpState) : Type 0 where
  pub still_once : IsOnce after
  pub same_number : length after.held + length after.waiting ≡ length l.held + length l.waiting

pub tested-once : (over : ℕ → ℕ → Bool) (ps : List TaskSem) (l : PcpState) → IsDistinct (tasks_of_pairs ps) → ((t s : ℕ) → has_pair t s ps ≡ true → has_pair t s l.waiting ≡ true) → IsDistinct (tasks_of_pairs l.waiting) → IsOnce l → IsTried l (tested over ps l)
tested-once over [] l d waits dw o = record { still_once = o; same_number = refl }
tested-once over (p ∷ ps) l d waits dw o = by_case (passes over l.held p.task) (tested-once over ps (granted p l) d.1 later (distinct-without_pair p l.waiting dw) (granted-once p l o here)) (tested-once over ps l d.1 (λ t s h. waits t s (rw h (or_true (t == p.task && s == p.sem)))) dw o)
  where
    here : has_pair p.task p.sem l.waiting ≡ true
    here = waits p.task p.sem (rw (equal_self p.task, equal_self p.sem))

    later : (t s : ℕ) → has_pair t s ps ≡ true → has_pair t s (without_pair p l.waiting) ≡ true
    later t s h = without_pair-keeps t s p l.waiting (other-pair t s p ps d.0 h) (waits t s (rw h (or_true (t == p.task && s == p.sem))))

    by_case : (b : Bool) → IsTried (granted p l) (tested over ps (granted p l)) → IsTried l (tested over ps l) → IsTried l (tested over ps (if b then granted p l else l))
    by_case true k m = record { still_once = k.still_once; same_number = omega (arith, k.same_number, length-taken p l.waiting dw here) }
    by_case false k m = m

freed-once : (p : TaskSem) (l : PcpState) → IsOnce l → IsOnce (record l { held = without_pair p l.held })
freed-once p l o = record {
  once = λ s. once-without p s l.held (o.once s);
  apart = λ t s k. unless _ (λ m. clash _ (has_pair-without_pair t s p l.held m) (o.apart t s k));
}

-- an Unlock: the tries over what is left of the held pairs
pub freed-tried : (above over : ℕ → ℕ → Bool) (p : TaskSem) (l : PcpState) → IsDistinct (tasks_of_pairs l.waiting) → IsOnce l → IsTried (record l { held = without_pair p l.held }) (tested over (in_order above l.waiting) (record l { held = without_pair p l.held }))
freed-tried above over p l dw o = tested-once over (in_order above l.waiting) (record l { held = without_pair p l.held }) (distinct-in_order above l.waiting dw) (λ t s h. rw has_pair-in_order at h) dw (freed-once p l o)

-- a task that asks neither holds the semaphore nor waits
pub record IsNew (t s : ℕ) (l : PcpState) : Type 0 where
  pub holds_not : has_pair t s l.held ≡ false
  pub waits_not : has t (tasks_of_pairs l.waiting) ≡ false

asked-once : (over : ℕ → ℕ → Bool) (t s : ℕ) (l : PcpState) → IsNew t s l → IsOnce l → (b : Bool) → IsOnce (if b then record l { held = record { task = t; sem = s } ∷ l.held } else record l { waiting = l.waiting ++ record { task = t; sem = s } ∷ [] })
asked-once over t s l n o true = record {
  once = once-cons (record { task = t; sem = s }) l.held o.once n.holds_not;
  apart = λ u r k. rw (other-pair u r (record { task = t; sem = s }) l.waiting n.waits_not k) (o.apart u r k);
}
asked-once over t s l n o false = record { once = o.once; apart = λ u r k. split u r (either _ _ (rw has_pair-append at k)) }
  where
    split : (u r : ℕ) → (has_pair u r l.waiting ≡ true) ⊎ ((u == t && r == s) || false ≡ true) → has_pair u r l.held ≡ false
    split u r (inl k) = o.apart u r k
    split u r (inr k) =
        let m : u == t && r == s ≡ true = or_false _ k in
        let same : u ≡ t = eqb-true u t (both _ _ m).0 in
        let same_sem : r ≡ s = eqb-true r s (both _ _ m).1 in
        rw (same, same_sem) n.holds_not

pub once-step : (above over : ℕ → ℕ → Bool) (x : SemAct) (l : PcpState) → ((t s : ℕ) → x ≡ Asks t s → IsNew t s l) → IsDistinct (tasks_of_pairs l.waiting) → IsOnce l → IsOnce (pcp_after above over x l)
once-step above over (Asks t s) l new dw o = asked-once over t s l (new t s refl) o (passes over l.held t)
once-step above over (Frees t s) l new dw o = (freed-tried above over (record { task = t; sem = s }) l dw o).still_once
once-step above over Neither l new dw o = o

-- a list in which each number stands once, and all are one
pub length-one : (xs : List ℕ) → IsDistinct xs → ((x y : ℕ) → has x xs ≡ true → has y xs ≡ true → x ≡ y) → length xs ≤ 1
length-one [] d one = omega arith
length-one (x ∷ []) d one = omega arith
length-one (x ∷ y ∷ ys) d one =
    let same : x ≡ y = one x y (rw (equal_self x)) (rw (equal_self y) (or_true (y == x))) in
    let there : x == y || has x ys ≡ true = rw (same, equal_self y) in
    absurd (clash _ there d.0)
