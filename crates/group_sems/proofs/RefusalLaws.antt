-- Going over the semaphores that a task declares.
use Rattle.std.proofs.Common.{◌≡◌, ℕ, ◌+◌, ◌<◌, ◌≤◌, true, false, List, ◌∷◌, length, map, drop, get_or, refl}
use Rattle.std.specs.Prelude.{◌==◌}
use Rattle.std.proofs.lemmas.List.{drop_more}
use Rattle.rt_base.specs.declared.SemNo.{SemNo}
use Rattle.rt_task.specs.declared.Parts.{Parts}
use Rattle.rt_rules.proofs.BoolLaws.{or_true}
use Rattle.rt_rules.proofs.MemberLaws.{equal_self}
use Rattle.sem_table.specs.SemTable.{SemTable}
use Rattle.group_sems.specs.Refusing.{AreSems, holds_other, holds_other_one}

abbrev pub numbers_of : List SemNo → List ℕ
numbers_of ss = map (λ (n : SemNo). n.0) ss

-- from the i-th on the semaphores answer as all of them, and they are semaphores of the set
pub record IsRest (p : Parts) (table : SemTable) (t i : ℕ) (all : List SemNo) : Type 0 where
  pub same : holds_other p table t (numbers_of (drop i all)) ≡ holds_other p table t (numbers_of all)
  pub known : AreSems p (numbers_of (drop i all))

module _ (p : Parts) (table : SemTable) (t i : ℕ) (all : List SemNo) (d : SemNo) (h : IsRest p table t i all) (low : i < length all) where
  abbrev next : ℕ
  next = (get_or all i d).0

  known-here : AreSems p (next ∷ numbers_of (drop (i + 1) all))
  known-here = rw (drop_more all i d low) at h.known

  pub rest-known : (1 ≤ next) × (next ≤ length p.sems)
  rest-known = known-here next (rw (equal_self next) refl)

  pub rest-next : holds_other_one p table t next ≡ false → IsRest p table t (i + 1) all
  rest-next out = record {
    same = rw (drop_more all i d low, out) at h.same;
    known = λ r m. known-here r (rw m (or_true (r == next)));
  }

  pub rest-found : holds_other_one p table t next ≡ true → true ≡ holds_other p table t (numbers_of all)
  rest-found found = rw (drop_more all i d low, found) at h.same
