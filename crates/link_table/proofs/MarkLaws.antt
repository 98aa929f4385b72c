-- Marks that are set task by task.
use Rattle.std.proofs.Common.{◌≡◌, ◌∙◌, ℕ, zero, suc, ◌+◌, ◌<◌, ◌≤◌, Bool, true, false, not, ◌&&◌, ◌||◌, cond, ◌⊎◌, inl, inr, List, [], ◌∷◌, length, take, get_or, set, length-set, get_or-set_same, get_or-set_other, refl, sym, ap, subst, arith, eqb-true}
use Rattle.std.proofs.lemmas.List.{length-map, take_all}
use Rattle.std.specs.Prelude.{Option, None, Some, ◌==◌, filter}
use Rattle.rt_base.specs.declared.TaskNo.{TaskNo}
use Rattle.rt_base.specs.TaskNos.{number_of_task, numbers_of_tasks}
use Rattle.rt_rules.specs.Distinct.{IsDistinct}
use Rattle.rt_rules.specs.Numbers.{has, is}
use Rattle.rt_rules.specs.Placing.{link_at, kept, kept_link, tasks_in}
use Rattle.rt_rules.proofs.BoolLaws.{and_false, and_true, clash, or_assoc, or_true, unless}
use Rattle.rt_rules.proofs.LinkLaws.{has-link_at}
use Rattle.rt_rules.proofs.PlacingLaws.{beside, distinct-head, distinct-tail, equal_self, has-filter, has-kept, has-tasks_in}
use Rattle.link_table.specs.Marks.{AreMarks, Says, with_mark}
use Rattle.link_table.proofs.PlaceLaws.{link_at-numbers}

-- the marks so far and the tasks that are left make the whole list
pub record AreMarkedBut (marks : List Bool) (left all : List ℕ) : Type 0 where
  pub each : (t : ℕ) → t < length marks → get_or marks t false || has t left ≡ has t all

-- ---- marks of what runs, as a processor comes to run another task

-- a task of the changed list is the new one or was there, and not at this place
has-set_exact : (u k : ℕ) (o : Option ℕ) (ls : List (Option ℕ)) → IsDistinct (tasks_in ls) → k < length ls
    → has u (tasks_in (set ls k o)) ≡ is u o || (has u (tasks_in ls) && not (is u (link_at ls k)))
has-set_exact u k o [] once inside = absurd (omega arith)
has-set_exact u zero o (l ∷ ls) once inside = has-tasks_in u o ls ∙ ap (λ b. is u o || b) (sym (ap (λ b. b && not (is u l)) (has-tasks_in u l ls) ∙ by_case (is u l) refl))
  where
    by_case : (b : Bool) → is u l ≡ b → (b || has u (tasks_in ls)) && not b ≡ has u (tasks_in ls)
    by_case true e = sym (distinct-head u l ls once e)
    by_case false e = and_true (has u (tasks_in ls))
has-set_exact u (suc k) o (l ∷ ls) once inside =
    has-tasks_in u l (set ls k o) ∙ ap (λ b. is u l || b) (has-set_exact u k o ls (distinct-tail l ls once) (omega arith))
    ∙ by_case (is u l) refl ∙ ap (λ b. is u o || (b && not (is u (link_at ls k)))) (sym (has-tasks_in u l ls))
  where
    by_case : (b : Bool) → is u l ≡ b → b || (is u o || (has u (tasks_in ls) && not (is u (link_at ls k)))) ≡ is u o || ((b || has u (tasks_in ls)) && not (is u (link_at ls k)))
    by_case true e =
        let away : is u (link_at ls k) ≡ false = unless (is u (link_at ls k)) (λ h. clash (has u (tasks_in ls)) (has-link_at u ls k h) (distinct-head u l ls once e)) in
        rw away (sym (or_true (is u o)))
    by_case false e = refl

length-with_mark : (marks : List Bool) (o : Option ℕ) (b : Bool) → length (with_mark marks o b) ≡ length marks
length-with_mark marks None b = refl
length-with_mark marks (Some t) b = length-set marks t b

-- the mark of a task, once that of one is set
pub at-with_mark : (marks : List Bool) (o : Option ℕ) (b : Bool) (u : ℕ) → u < length marks → get_or (with_mark marks o b) u false ≡ cond (is u o) b (get_or marks u false)
at-with_mark marks None b u low = refl
at-with_mark marks (Some t) b u low = by_case (u == t) refl
  where
    by_case : (c : Bool) → u == t ≡ c → get_or (set marks t b) u false ≡ cond c b (get_or marks u false)
    by_case true e = let same : u ≡ t = eqb-true u t e in rw same (get_or-set_same marks t b false (subst (λ n. n < length marks) same low))
    by_case false e = get_or-set_other marks t u b false (λ m. clash (u == t) (rw m (equal_self t)) e)

pub marks-run : (marks : List Bool) (rs : List (Option ℕ)) (k : ℕ) (o : Option ℕ) → AreMarks marks (tasks_in rs) → IsDistinct (tasks_in rs) → k < length rs
    → AreMarks (with_mark (with_mark marks (link_at rs k) false) o true) (tasks_in (set rs k o))
marks-run marks rs k o are once inside = record {
  each = λ u h.
      let shorter : u < length (with_mark marks (link_at rs k) false) = omega (arith, h, length-with_mark (with_mark marks (link_at rs k) false) o true) in
      let low : u < length marks = omega (arith, shorter, length-with_mark marks (link_at rs k) false) in
      at-with_mark (with_mark marks (link_at rs k) false) o true u shorter
      ∙ ap (λ b. cond (is u o) true b) (at-with_mark marks (link_at rs k) false u low ∙ ap (λ b. cond (is u (link_at rs k)) false b) (are.each u low))
      ∙ joined (is u o) (is u (link_at rs k)) (has u (tasks_in rs))
      ∙ sym (has-set_exact u k o rs once inside);
}
  where
    joined : (a b c : Bool) → cond a true (cond b false c) ≡ a || (c && not b)
    joined true b c = refl
    joined false true c = sym (and_false c)
    joined false false c = sym (and_true c)

-- ---- marks of the top, as processors keep their links

-- what the first so many processors keep
abbrev pub kept_first : List ℕ → List ℕ → List (Option ℕ) → List (Option ℕ) → ℕ → List (Option ℕ)
kept_first top running rs ls q = kept top running (take q rs) (take q ls)

-- just the tasks of the top that these do not keep are marked
pub record AreLeft (marks : List Bool) (top running : List ℕ) (rs ls : List (Option ℕ)) (q : ℕ) : Type 0 where
  pub each : (t : ℕ) → t < length marks → get_or marks t false ≡ has t top && not (has t (tasks_in (kept_first top running rs ls q)))

pub left-none : (marks : List Bool) (top running : List ℕ) (rs ls : List (Option ℕ)) → AreMarks marks top → AreLeft marks top running rs ls 0
left-none marks top running rs ls are = record { each = λ t h. are.each t h ∙ sym (and_true (has t top)) }

has-kept_more : (t : ℕ) (top running : List ℕ) (rs ls : List (Option ℕ)) (q : ℕ) → q < length rs → q < length ls
    → has t (tasks_in (kept_first top running rs ls (suc q))) ≡ has t (tasks_in (kept_first top running rs ls q)) || is t (kept_link top running (link_at rs q) (link_at ls q))
has-kept_more t top running [] ls q low low' = absurd (omega arith)
has-kept_more t top running (r ∷ rs) [] q low low' = absurd (omega arith)
has-kept_more t top running (r ∷ rs) (l ∷ ls) zero low low' = has-tasks_in t (kept_link top running r l) [] ∙ or_none (is t (kept_link top running r l))
  where
    or_none : (b : Bool) → b || false ≡ b
    or_none true = refl
    or_none false = refl
has-kept_more t top running (r ∷ rs) (l ∷ ls) (suc q) low low' =
    has-tasks_in t (kept_link top running r l) (kept_first top running rs ls (suc q))
    ∙ ap (λ b. is t (kept_link top running r l) || b) (has-kept_more t top running rs ls q (omega arith) (omega arith))
    ∙ or_assoc (is t (kept_link top running r l)) (has t (tasks_in (kept_first top running rs ls q))) (is t (kept_link top running (link_at rs q) (link_at ls q)))
    ∙ ap (λ b. b || is t (kept_link top running (link_at rs q) (link_at ls q))) (sym (has-tasks_in t (kept_link top running r l) (kept_first top running rs ls q)))

-- one more processor keeps its link or loses it
pub left-more : (marks : List Bool) (top running : List ℕ) (rs ls : List (Option ℕ)) (q : ℕ) (o : Option ℕ) → q < length rs → q < length ls → o ≡ kept_link top running (link_at rs q) (link_at ls q)
    → AreLeft marks top running rs ls q → AreLeft (with_mark marks o false) top running rs ls (suc q)
left-more marks top running rs ls q o low low' is_kept are = record {
  each = λ t h.
      let inside : t < length marks = omega (arith, h, length-with_mark marks o false) in
      at-with_mark marks o false t inside
      ∙ ap (λ b. cond (is t o) false b) (are.each t inside)
      ∙ joined (is t o) (has t top) (has t (tasks_in (kept_first top running rs ls q)))
      ∙ ap (λ b. has t top && not b) (ap (λ x. has t (tasks_in (kept_first top running rs ls q)) || is t x) is_kept ∙ sym (has-kept_more t top running rs ls q low low'));
}
  where
    joined : (a b c : Bool) → cond a false (b && not c) ≡ b && not (c || a)
    joined true b true = sym (and_false b)
    joined true b false = sym (and_false b)
    joined false b true = refl
    joined false b false = refl

pub left-all : (marks : List Bool) (top running : List ℕ) (rs ls : List (Option ℕ)) (q : ℕ) → length rs ≡ length ls → length ls ≤ q → AreLeft marks top running rs ls q
    → AreMarks marks (filter (λ t. not (has t (tasks_in (kept top running rs ls)))) top)
left-all marks top running rs ls q same past are = record {
  each = λ t h.
      are.each t h
      ∙ ap (λ xs. has t top && not (has t (tasks_in (kept top running xs (take q ls))))) (take_all q rs (omega (arith, same, past)))
      ∙ ap (λ xs. has t top && not (has t (tasks_in (kept top running rs xs)))) (take_all q ls past)
      ∙ sym (has-filter (λ t. not (has t (tasks_in (kept top running rs ls)))) t top);
}

-- the same, as the tasks are kept
pub left-kept : (marks : List Bool) (top running : List ℕ) (runs links now : List (Option TaskNo)) (q : ℕ) (o : Option TaskNo) → q < length links → length runs ≡ length links
    → get_or now q None ≡ get_or links q None → number_of_task o ≡ kept_link top running (number_of_task (get_or runs q None)) (number_of_task (get_or now q None))
    → AreLeft marks top running (numbers_of_tasks runs) (numbers_of_tasks links) q → AreLeft (with_mark marks (number_of_task o) false) top running (numbers_of_tasks runs) (numbers_of_tasks links) (q + 1)
left-kept marks top running runs links now q o low same rest is_kept are =
    let next : suc q ≡ q + 1 = omega arith in
    let kept_there = is_kept ∙ ap (λ x. kept_link top running x (number_of_task (get_or now q None))) (link_at-numbers runs q) ∙ ap (λ x. kept_link top running (link_at (numbers_of_tasks runs) q) x) (ap number_of_task rest ∙ link_at-numbers links q) in
    subst (AreLeft (with_mark marks (number_of_task o) false) top running (numbers_of_tasks runs) (numbers_of_tasks links)) next
    (left-more marks top running (numbers_of_tasks runs) (numbers_of_tasks links) q (number_of_task o) (omega (arith, low, same, length-map runs number_of_task)) (omega (arith, low, length-map links number_of_task)) kept_there are)

pub left-kept_all : (marks : List Bool) (top running : List ℕ) (runs links : List (Option TaskNo)) (q : ℕ) → length runs ≡ length links → length links ≤ q
    → AreLeft marks top running (numbers_of_tasks runs) (numbers_of_tasks links) q → AreMarks marks (filter (λ t. not (has t (tasks_in (kept top running (numbers_of_tasks runs) (numbers_of_tasks links))))) top)
left-kept_all marks top running runs links q same past are =
    left-all marks top running (numbers_of_tasks runs) (numbers_of_tasks links) q (omega (arith, same, length-map runs number_of_task, length-map links number_of_task)) (omega (arith, past, length-map links number_of_task)) are

-- a task that stands once stands nowhere before its place
not-before : (t : ℕ) (ls : List (Option ℕ)) (q : ℕ) → IsDistinct (tasks_in ls) → is t (link_at ls q) ≡ true → has t (tasks_in (take q ls)) ≡ false
not-before t ls zero once here = refl
not-before t [] (suc q) once here = refl
not-before t (l ∷ ls) (suc q) once here =
    let other : is t l ≡ false = unless (is t l) (λ h. clash (has t (tasks_in ls)) (has-link_at t ls q here) (distinct-head t l ls once h)) in
    has-tasks_in t l (take q ls) ∙ rw other (not-before t ls q (distinct-tail l ls once) here)

has-before : (t : ℕ) (ls : List (Option ℕ)) (q : ℕ) → has t (tasks_in (take q ls)) ≡ true → has t (tasks_in ls) ≡ true
has-before t ls zero h = cc
has-before t [] (suc q) h = cc
has-before t (l ∷ ls) (suc q) h = has-tasks_in t l ls ∙ by_case (is t l) (sym (has-tasks_in t l (take q ls)) ∙ h) (has-before t ls q)
  where
    by_case : (b : Bool) → b || has t (tasks_in (take q ls)) ≡ true → (has t (tasks_in (take q ls)) ≡ true → has t (tasks_in ls) ≡ true) → b || has t (tasks_in ls) ≡ true
    by_case true k rest = refl
    by_case false k rest = rest k

module _ (marks : List Bool) (top : List ℕ) (rs ls : List (Option ℕ)) (q : ℕ) (are : AreLeft marks top (tasks_in rs) rs ls q) (t : ℕ) where
  of_top : has t (tasks_in (kept_first top (tasks_in rs) rs ls q)) ≡ false → Says marks t (has t top)
  of_top out low = are.each t low ∙ rw out (and_true (has t top))

  -- the mark of what a processor runs tells whether it is of the top
  pub run-says : IsDistinct (tasks_in rs) → is t (link_at rs q) ≡ true → Says marks t (has t top)
  run-says once here = of_top (unless (has t (tasks_in (kept_first top (tasks_in rs) rs ls q))) (λ h. by_case (has-kept t top (tasks_in rs) (take q rs) (take q ls) h).1))
    where
      by_case : (has t (tasks_in (take q rs)) ≡ true) ⊎ (has t (tasks_in (take q ls)) ≡ true) × (has t (tasks_in rs) ≡ false) → ⊥
      by_case (inl h) = clash (has t (tasks_in (take q rs))) h (not-before t rs q once here)
      by_case (inr h) = clash (has t (tasks_in rs)) (has-link_at t rs q here) h.1

  -- and so does the mark of its link, where that runs nowhere
  pub link-says : IsDistinct (tasks_in ls) → is t (link_at ls q) ≡ true → has t (tasks_in rs) ≡ false → Says marks t (has t top)
  link-says once here idle = of_top (unless (has t (tasks_in (kept_first top (tasks_in rs) rs ls q))) (λ h. by_case (has-kept t top (tasks_in rs) (take q rs) (take q ls) h).1))
    where
      by_case : (has t (tasks_in (take q rs)) ≡ true) ⊎ (has t (tasks_in (take q ls)) ≡ true) × (has t (tasks_in rs) ≡ false) → ⊥
      by_case (inl h) = clash (has t (tasks_in rs)) (has-before t rs q h) idle
      by_case (inr h) = clash (has t (tasks_in (take q ls))) h.0 (not-before t ls q once here)

-- ---- marks of the top, as its tasks take the processors that are left

-- the first of the tasks that are left is marked just where it is linked nowhere
pub first-says : (marks : List Bool) (us : List ℕ) (t : ℕ) (ts : List ℕ) → AreMarks marks (beside us (t ∷ ts)) → Says marks t (not (has t us))
first-says marks us t ts are low = are.each t low ∙ has-filter (λ v. not (has v us)) t (t ∷ ts) ∙ rw (equal_self t) refl

-- its mark is cleared
pub marks-rest : (marks : List Bool) (us : List ℕ) (t : ℕ) (ts : List ℕ) → has t ts ≡ false → AreMarks marks (beside us (t ∷ ts)) → AreMarks (set marks t false) (beside us ts)
marks-rest marks us t ts once are = record {
  each = λ u h.
      let low : u < length marks = omega (arith, h, length-set marks t false) in
      at-with_mark marks (Some t) false u low
      ∙ ap (λ b. cond (u == t) false b) (are.each u low ∙ has-filter (λ v. not (has v us)) u (t ∷ ts))
      ∙ by_case u (u == t) refl
      ∙ sym (has-filter (λ v. not (has v us)) u ts);
}
  where
    by_case : (u : ℕ) (b : Bool) → u == t ≡ b → cond b false ((b || has u ts) && not (has u us)) ≡ has u ts && not (has u us)
    by_case u true e = let gone : has u ts ≡ false = ap (λ n. has n ts) (eqb-true u t e) ∙ once in sym (rw gone refl)
    by_case u false e = refl
