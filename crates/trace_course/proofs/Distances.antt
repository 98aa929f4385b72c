-- How far on from each step the next one of its processor is, as the steps are gone through from the last one to the first.
use Rattle.std.proofs.Common.{◌≡◌, ◌≢◌, ℕ, ◌+◌, ◌-◌, ◌<◌, ◌≤◌, ◌==◌, ◌⊎◌, inl, inr, Bool, true, false, List, length, take, get_or, set, refl, sym, ap, ◌∙◌, subst, arith, eqb-true, get_or-set_same, get_or-set_other, length-set}
use Rattle.std.specs.Prelude.{Option, None, Some, replicate, if◌then◌else◌}
use Rattle.std.proofs.lemmas.Bool.{cases_eq, cases_lt}
use Rattle.std.proofs.lemmas.List.{get_or-replicate, get_or_default, get_or_past, length-replicate}
use Rattle.rt_rules.specs.Numbers.{has}
use Rattle.rt_rules.proofs.MemberLaws.{equal_self}
use Rattle.rt_task.specs.declared.Step.{Step}
use Rattle.rt_plays.proofs.ScriptParts.{script-take-skip}
use Rattle.rt_plays.specs.Scripts.{script}
use Rattle.trace_course.specs.Next.{AreFollowing, IsFollowing}
use Rattle.trace_course.specs.Followed.{position_in}

-- no step of the processor stands from the one position up to the other
pub record IsNextFrom (steps : List Step) (from q position : ℕ) : Type 0 where
  pub behind : from ≤ position
  pub within : position ≤ length steps
  pub none_between : script (take position steps) q ≡ script (take from steps) q

-- and so for each processor that has a position
abbrev pub AreNext : List Step → ℕ → List (Option ℕ) → Type 0
AreNext steps from next = (q position : ℕ) → position_in next q ≡ Some position → IsNextFrom steps from q position

-- ---- how far on

pub following-first : (steps : List Step) → AreFollowing steps (replicate (length steps) 1)
following-first steps = record {
  count = length-replicate {A = ℕ} (length steps) 1;
  each = λ j low. subst (IsFollowing steps j) (sym (get_or-replicate (length steps) j 1 0 low)) (record {
    behind = omega arith;
    within = omega arith;
    none_between = λ d. refl;
  });
}

pub following-from : (steps : List Step) (i position distance : ℕ) (d : Step) → i < length steps → IsNextFrom steps (i + 1) (get_or steps i d).cpu.0 position
    → (i + distance ≡ position) ⊎ (distance ≡ 1) → IsFollowing steps i distance
following-from steps i position distance d low next far = by_case far
  where
    by_case : (i + distance ≡ position) ⊎ (distance ≡ 1) → IsFollowing steps i distance
    by_case (inl is) = record {
      behind = (let b = next.behind in omega (arith, b, is));
      within = (let w = next.within in omega (arith, w, is));
      none_between = λ x.
          subst (λ (s : Step). script (take (i + distance) steps) s.cpu.0 ≡ script (take (i + 1) steps) s.cpu.0) (get_or_default steps i d x low)
          (ap (λ (to : ℕ). script (take to steps) (get_or steps i d).cpu.0) is ∙ next.none_between);
    }
    by_case (inr one) = record {
      behind = omega (arith, one);
      within = omega (arith, one, low);
      none_between = λ x. ap (λ (n : ℕ). script (take (i + n) steps) (get_or steps i x).cpu.0) one;
    }

pub following-set : (steps : List Step) (following : List ℕ) (i distance : ℕ) → i < length steps → AreFollowing steps following → IsFollowing steps i distance
    → AreFollowing steps (set following i distance)
following-set steps following i distance low are one = record {
  count = length-set following i distance ∙ are.count;
  each = λ j there. by_case j there (cases_eq j i);
}
  where
    by_case : (j : ℕ) → j < length steps → (j ≡ i) ⊎ (j ≢ i) → IsFollowing steps j (get_or (set following i distance) j 0)
    by_case j there (inl same) =
        let now : get_or (set following i distance) i 0 ≡ distance = get_or-set_same following i distance 0 (let n = are.count in omega (arith, low, n)) in
        subst (λ (k : ℕ). IsFollowing steps k (get_or (set following i distance) k 0)) (sym same) (subst (IsFollowing steps i) (sym now) one)
    by_case j there (inr other) = subst (IsFollowing steps j) (sym (get_or-set_other following i j distance 0 other)) (are.each j there)

-- ---- the next steps from a position on

pub next-first : (steps : List Step) (qs : List ℕ) (next : List (Option ℕ)) → ((q : ℕ) → position_in next q ≡ (if has q qs then Some (length steps) else None))
    → AreNext steps (length steps) next
next-first steps qs next opened q position there = by_case (has q qs) (opened q)
  where
    by_case : (b : Bool) → position_in next q ≡ (if b then Some (length steps) else None) → IsNextFrom steps (length steps) q position
    by_case true is =
        let same : length steps ≡ position = cc in
        subst (IsNextFrom steps (length steps) q) same (record { behind = omega arith; within = omega arith; none_between = refl })
    by_case false is = absurd cc

-- a processor that has a position stands in the table
pub position-there : (positions : List (Option ℕ)) (q position : ℕ) → position_in positions q ≡ Some position → q < length positions
position-there positions q position there =
    elim (cases_lt q (length positions)) [
      | inl low ↦ low
      | inr high ↦ (let none : position_in positions q ≡ None = get_or_past positions q None high in absurd cc)
    ]

-- ---- one position further back, where a step of this processor stands

module _ (steps : List Step) (from own : ℕ) (d : Step) (next : List (Option ℕ)) (some : 0 < from) (within : from ≤ length steps) (own_is : (get_or steps (from - 1) d).cpu.0 ≡ own) (are : AreNext steps from next) where
  abbrev i : ℕ
  i = from - 1

  low : i < length steps
  low = omega (arith, some, within)

  next_there : (q position : ℕ) → position_in next q ≡ Some position → IsNextFrom steps (i + 1) q position
  next_there q position there = let at : from ≡ i + 1 = omega (arith, some) in subst (λ (n : ℕ). IsNextFrom steps n q position) at (are q position there)

  back : (q position : ℕ) → position_in next q ≡ Some position → own == q ≡ false → IsNextFrom steps i q position
  back q position there other =
      let further = next_there q position there in
      record {
        behind = (let b = further.behind in omega (arith, b));
        within = further.within;
        none_between = further.none_between ∙ script-take-skip steps q i d low (ap (λ (n : ℕ). n == q) own_is ∙ other);
      }

  pub behind : (position : ℕ) → position_in next own ≡ Some position → i < position
  behind position there = let b = (next_there own position there).behind in omega (arith, b)

  pub following-next : (following : List ℕ) (position distance : ℕ) → AreFollowing steps following → position_in next own ≡ Some position → (i + distance ≡ position) ⊎ (distance ≡ 1)
      → AreFollowing steps (set following i distance)
  following-next following position distance before there far =
      following-set steps following i distance low before
      (following-from steps i position distance d low (subst (λ (q : ℕ). IsNextFrom steps (i + 1) q position) (sym own_is) (next_there own position there)) far)

  -- where it has no position
  pub next-without : position_in next own ≡ None → AreNext steps i next
  next-without none q position there = by_case (own == q) refl
    where
      by_case : (b : Bool) → own == q ≡ b → IsNextFrom steps i q position
      by_case true is = let same : position_in next own ≡ position_in next q = ap (position_in next) (eqb-true own q is) in absurd cc
      by_case false is = back q position there is

  -- where that step is now its next one
  pub next-set : own < length next → AreNext steps i (set next own (Some i))
  next-set inside q position there = by_case (own == q) refl
    where
      by_case : (b : Bool) → own == q ≡ b → IsNextFrom steps i q position
      by_case true is =
          let now : position_in (set next own (Some i)) own ≡ Some i = get_or-set_same next own (Some i) None inside in
          let one : position_in (set next own (Some i)) own ≡ position_in (set next own (Some i)) q = ap (position_in (set next own (Some i))) (eqb-true own q is) in
          let same : i ≡ position = cc in
          subst (IsNextFrom steps i q) same (record { behind = omega arith; within = omega (arith, some, within); none_between = refl })
      by_case false is =
          let apart : q ≢ own = (λ k. let n : own == q ≡ true = rw k (equal_self own) in cc) in
          back q position (sym (get_or-set_other next own q (Some i) None apart) ∙ there) is
