-- The first processor that is left, and the tasks that take the others.
use Rattle.std.proofs.Common.{◌≡◌, ℕ, zero, suc, ◌<◌, Bool, true, false, ◌||◌, List, [], ◌∷◌, length, get_or, set, refl, ap, sym, ◌∙◌, arith, eqb-true}
use Rattle.std.proofs.lemmas.Bool.Decides.{nat_tests}
use Rattle.std.specs.Prelude.{Option, None, Some, is_some, ◌==◌}
use Rattle.rt_base.specs.declared.TaskNo.{TaskNo}
use Rattle.rt_rules.specs.Numbers.{has}
use Rattle.rt_rules.specs.Distinct.{IsDistinct}
use Rattle.rt_rules.specs.Placing.{tasks_in, filled}
use Rattle.rt_rules.proofs.PlacingLaws.{beside}
use Rattle.rt_base.specs.TaskNos.{numbers_of_tasks}
use Rattle.link_table.specs.Linked.{first_taken}

pub first_taken-at : (t : TaskNo) (ls : List (Option TaskNo)) (q : ℕ) → q < length ls → ((k : ℕ) → k < q → is_some (get_or ls k None) ≡ true) → is_some (get_or ls q None) ≡ false → numbers_of_tasks (set ls q (Some t)) ≡ first_taken t.0 (numbers_of_tasks ls)
first_taken-at t [] q h taken free = absurd (omega arith)
first_taken-at t (None ∷ ls) zero h taken free = refl
first_taken-at t (Some u ∷ ls) zero h taken free = cc
first_taken-at t (None ∷ ls) (suc q) h taken free = let n : false ≡ true = taken 0 (omega arith) in cc
first_taken-at t (Some u ∷ ls) (suc q) h taken free = ap (λ xs. Some u.0 ∷ xs) (first_taken-at t ls q (omega arith) (λ k b. taken (suc k) (omega arith)) free)

pub first_taken-full : (t : ℕ) (ls : List (Option TaskNo)) → ((k : ℕ) → k < length ls → is_some (get_or ls k None) ≡ true) → first_taken t (numbers_of_tasks ls) ≡ numbers_of_tasks ls
first_taken-full t [] taken = refl
first_taken-full t (None ∷ ls) taken = let n : false ≡ true = taken 0 (omega arith) in cc
first_taken-full t (Some u ∷ ls) taken = ap (λ xs. Some u.0 ∷ xs) (first_taken-full t ls (λ k b. taken (suc k) (omega arith)))

pub filled-first : (t : ℕ) (ts : List ℕ) (ls : List (Option ℕ)) → filled (first_taken t ls) ts ≡ filled ls (t ∷ ts)
filled-first t ts [] = refl
filled-first t ts (None ∷ ls) = refl
filled-first t ts (Some u ∷ ls) = ap (λ xs. Some u ∷ xs) (filled-first t ts ls)

pub has-first_taken : (u t : ℕ) (ls : List (Option ℕ)) → u == t ≡ false → has u (tasks_in (first_taken t ls)) ≡ has u (tasks_in ls)
has-first_taken u t [] h = refl
has-first_taken u t (None ∷ ls) h = rw h
has-first_taken u t (Some v ∷ ls) h = ap (λ b. u == v || b) (has-first_taken u t ls h)

-- the tasks that are left lead from the links so far to what all lead to from the first ones
pub record Leads (all : List ℕ) (first now : List (Option ℕ)) (left : List ℕ) : Type 0 where
  pub rest : filled now (beside (tasks_in first) left) ≡ filled first (beside (tasks_in first) all)
  pub same : (u : ℕ) → has u left ≡ true → has u (tasks_in now) ≡ has u (tasks_in first)
  pub once : IsDistinct left

module _ (all : List ℕ) (first now : List (Option ℕ)) (t : ℕ) (ts : List ℕ) (leads : Leads all first now (t ∷ ts)) where
  equal_self : (u : ℕ) → u == u ≡ true
  equal_self u = grind (arith, nat_tests)

  pub leads-same : has t (tasks_in now) ≡ has t (tasks_in first)
  leads-same = leads.same t (rw (equal_self t))

  or_true : (a : Bool) → a || true ≡ true
  or_true true = refl
  or_true false = refl

  pub leads-taken : has t (tasks_in now) ≡ false → Leads all first (first_taken t now) ts
  leads-taken free =
      let away : has t (tasks_in first) ≡ false = sym leads-same ∙ free in
      let whole : filled now (beside (tasks_in first) (t ∷ ts)) ≡ filled now (t ∷ beside (tasks_in first) ts) = rw away in
      record {
        rest = filled-first t _ now ∙ sym whole ∙ leads.rest;
        same = λ u h. has-first_taken u t now (apart u (u == t) refl h) ∙ leads.same u (rw h (or_true (u == t)));
        once = leads.once.1;
      }
    where
      apart : (u : ℕ) (b : Bool) → u == t ≡ b → has u ts ≡ true → u == t ≡ false
      apart u false e h = e
      apart u true e h = let m : u ≡ t = eqb-true u t e in let n : has t ts ≡ true = rw m at h in let o = leads.once.0 in cc

  pub leads-skipped : has t (tasks_in now) ≡ true → Leads all first now ts
  leads-skipped linked =
      let here : has t (tasks_in first) ≡ true = sym leads-same ∙ linked in
      let whole : filled now (beside (tasks_in first) (t ∷ ts)) ≡ filled now (beside (tasks_in first) ts) = rw here in
      record {
        rest = sym whole ∙ leads.rest;
        same = λ u h. leads.same u (rw h (or_true (u == t)));
        once = leads.once.1;
      }

pub filled-none : (ls : List (Option ℕ)) → filled ls [] ≡ ls
filled-none [] = refl
filled-none (None ∷ ls) = ap (λ xs. None ∷ xs) (filled-none ls)
filled-none (Some u ∷ ls) = ap (λ xs. Some u ∷ xs) (filled-none ls)
