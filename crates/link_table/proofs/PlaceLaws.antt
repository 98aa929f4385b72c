-- Places of a list of links.
use Rattle.std.proofs.Common.{◌≡◌, ℕ, zero, suc, ◌<◌, ◌≢◌, true, ◌⊎◌, inl, inr, List, [], ◌∷◌, length, get_or, set, refl, ap, arith}
use Rattle.std.specs.Prelude.{Option, None, replicate}
use Rattle.rt_base.specs.declared.TaskNo.{TaskNo}
use Rattle.rt_base.specs.TaskNos.{number_of_task, numbers_of_tasks}
use Rattle.rt_rules.specs.Distinct.{IsDistinct}
use Rattle.rt_rules.specs.Numbers.{has, is}
use Rattle.rt_rules.specs.Placing.{tasks_in, link_at}
use Rattle.rt_rules.proofs.PlacingLaws.{has-tasks_in, either, unless, or_true, distinct-head, distinct-tail, distinct_cons}
use Rattle.rt_rules.proofs.LinkLaws.{has-link_at}

-- what is read at a place
pub read-link_at : (os : List (Option TaskNo)) (k : ℕ) (o : Option TaskNo) → k < length os → o ≡ get_or os k o → number_of_task o ≡ link_at (numbers_of_tasks os) k
read-link_at [] k o h is = absurd (omega arith)
read-link_at (x ∷ os) zero o h is = ap number_of_task is
read-link_at (x ∷ os) (suc k) o h is = read-link_at os k o (omega arith) is

pub link_at-numbers : (os : List (Option TaskNo)) (k : ℕ) → number_of_task (get_or os k None) ≡ link_at (numbers_of_tasks os) k
link_at-numbers [] k = refl
link_at-numbers (x ∷ os) zero = refl
link_at-numbers (x ∷ os) (suc k) = link_at-numbers os k

pub numbers_of_tasks-set : (os : List (Option TaskNo)) (k : ℕ) (o : Option TaskNo) → numbers_of_tasks (set os k o) ≡ set (numbers_of_tasks os) k (number_of_task o)
numbers_of_tasks-set [] k o = refl
numbers_of_tasks-set (x ∷ os) zero o = refl
numbers_of_tasks-set (x ∷ os) (suc k) o = ap (λ ls. number_of_task x ∷ ls) (numbers_of_tasks-set os k o)

pub numbers_of_tasks-replicate : (n : ℕ) → numbers_of_tasks (replicate n None) ≡ replicate n None
numbers_of_tasks-replicate zero = refl
numbers_of_tasks-replicate (suc n) = ap (λ ls. None ∷ ls) (numbers_of_tasks-replicate n)

-- what stands in the list stands at a place
pub position_of : (t : ℕ) (ls : List (Option ℕ)) → has t (tasks_in ls) ≡ true → (k : ℕ) × (is t (link_at ls k) ≡ true)
position_of t [] h = cc
position_of t (l ∷ ls) h = by_case (either (is t l) _ (rw has-tasks_in at h)) (position_of t ls)
  where
    by_case : (is t l ≡ true) ⊎ (has t (tasks_in ls) ≡ true) → (has t (tasks_in ls) ≡ true → (k : ℕ) × (is t (link_at ls k) ≡ true)) → (k : ℕ) × (is t (link_at (l ∷ ls) k) ≡ true)
    by_case (inl here) rest = (0, here)
    by_case (inr later) rest = let r = rest later in (suc r.0, r.1)

-- a task that stands once stands at one place
pub same_link : (t : ℕ) (ls : List (Option ℕ)) (i j : ℕ) → IsDistinct (tasks_in ls) → is t (link_at ls i) ≡ true → is t (link_at ls j) ≡ true → i ≡ j
same_link t [] i j d h k = cc
same_link t (l ∷ ls) zero zero d h k = refl
same_link t (l ∷ ls) zero (suc j) d h k = let n = distinct-head t l ls d h in let m = has-link_at t ls j k in cc
same_link t (l ∷ ls) (suc i) zero d h k = let n = distinct-head t l ls d k in let m = has-link_at t ls i h in cc
same_link t (l ∷ ls) (suc i) (suc j) d h k = ap suc (same_link t ls i j (distinct-tail l ls d) h k)

pub link_at-set_same : (ls : List (Option ℕ)) (k : ℕ) (o : Option ℕ) → k < length ls → link_at (set ls k o) k ≡ o
link_at-set_same [] k o h = absurd (omega arith)
link_at-set_same (l ∷ ls) zero o h = refl
link_at-set_same (l ∷ ls) (suc k) o h = link_at-set_same ls k o (omega arith)

pub link_at-set_other : (ls : List (Option ℕ)) (k j : ℕ) (o : Option ℕ) → j ≢ k → link_at (set ls k o) j ≡ link_at ls j
link_at-set_other [] k j o apart = refl
link_at-set_other (l ∷ ls) zero zero o apart = absurd (apart refl)
link_at-set_other (l ∷ ls) zero (suc j) o apart = refl
link_at-set_other (l ∷ ls) (suc k) zero o apart = refl
link_at-set_other (l ∷ ls) (suc k) (suc j) o apart = link_at-set_other ls k j o (λ e. apart (ap suc e))

-- a task of the changed list is the new one or was there
pub has-set : (t : ℕ) (ls : List (Option ℕ)) (k : ℕ) (o : Option ℕ) → has t (tasks_in (set ls k o)) ≡ true → (is t o ≡ true) ⊎ (has t (tasks_in ls) ≡ true)
has-set t [] k o h = cc
has-set t (l ∷ ls) zero o h = by_case (either (is t o) _ (rw has-tasks_in at h))
  where
    by_case : (is t o ≡ true) ⊎ (has t (tasks_in ls) ≡ true) → (is t o ≡ true) ⊎ (has t (tasks_in (l ∷ ls)) ≡ true)
    by_case (inl here) = inl here
    by_case (inr later) = inr (rw (has-tasks_in t l ls, later) (or_true (is t l)))
has-set t (l ∷ ls) (suc k) o h = by_case (either (is t l) _ (rw has-tasks_in at h)) (has-set t ls k o)
  where
    by_case : (is t l ≡ true) ⊎ (has t (tasks_in (set ls k o)) ≡ true) → (has t (tasks_in (set ls k o)) ≡ true → (is t o ≡ true) ⊎ (has t (tasks_in ls) ≡ true)) → (is t o ≡ true) ⊎ (has t (tasks_in (l ∷ ls)) ≡ true)
    by_case (inl here) rest = inr (rw (has-tasks_in t l ls, here))
    by_case (inr later) rest = further (rest later)
      where
        further : (is t o ≡ true) ⊎ (has t (tasks_in ls) ≡ true) → (is t o ≡ true) ⊎ (has t (tasks_in (l ∷ ls)) ≡ true)
        further (inl new) = inl new
        further (inr old) = inr (rw (has-tasks_in t l ls, old) (or_true (is t l)))

-- what stands at no other place may stand here
pub distinct-set : (ls : List (Option ℕ)) (k : ℕ) (o : Option ℕ) → IsDistinct (tasks_in ls) → ((t j : ℕ) → is t o ≡ true → is t (link_at ls j) ≡ true → k ≡ j) → IsDistinct (tasks_in (set ls k o))
distinct-set [] k o d apart = d
distinct-set (l ∷ ls) zero o d apart = distinct_cons o ls (λ t h. unless _ (λ there. let p = position_of t ls there in let e : 0 ≡ suc p.0 = apart t (suc p.0) h p.1 in absurd (omega arith))) (distinct-tail l ls d)
distinct-set (l ∷ ls) (suc k) o d apart = distinct_cons l (set ls k o) (λ t h. unless _ (λ there. clash t h (has-set t ls k o there))) (distinct-set ls k o (distinct-tail l ls d) (λ t j h there. let e : suc k ≡ suc j = apart t (suc j) h there in omega arith))
  where
    clash : (t : ℕ) → is t l ≡ true → (is t o ≡ true) ⊎ (has t (tasks_in ls) ≡ true) → ⊥
    clash t h (inl new) = let e : suc k ≡ 0 = apart t 0 new h in omega arith
    clash t h (inr old) = let n = distinct-head t l ls d h in cc
