-- The row of a task is changed among those of all.
use Rattle.std.proofs.Common.{◌≡◌, ◌≢◌, ◌∙◌, ℕ, zero, suc, ◌<◌, ◌==◌, ◌&&◌, Bool, true, false, List, [], ◌∷◌, length, map, get_or, set, refl, sym, ap, subst, arith, All}
use Rattle.std.specs.Prelude.{Option, None, Some, if◌then◌else◌}
use Rattle.std.proofs.lemmas.Bool.Decides.{nat_tests}
use Rattle.rt_base.specs.TaskNos.{number_of_task}
use Rattle.rt_base.specs.declared.TaskNo.{TaskNo}
use Rattle.rt_rules.specs.Distinct.{IsDistinct}
use Rattle.rt_rules.specs.Numbers.{is}
use Rattle.rt_rules.proofs.BoolLaws.{and_false}
use Rattle.rt_model.specs.Group.{Group}
use Rattle.trace_views.specs.Moments.{Moment, is_unit}
use Rattle.chart_rows.specs.Listed.{tasks_listed}
use Rattle.chart_rows.specs.Units.{IsTold}
use Rattle.chart_rows.specs.declared.units.Unit.{Unit}
use Rattle.chart_rows.specs.Rows.{CpuKept, TaskKept, cpu_acted}
use Rattle.chart_rows.specs.inside.Acted.{task_done, task_worked}
use Rattle.chart_rows.specs.Positions.{IsPositionOf}
use Rattle.chart_rows.specs.inside.Finding.{only}
use Rattle.chart_rows.proofs.OneChanged.{all-stay, none-changed, one-changed}

-- ---- of one task

-- without a task none is changed
pub only-none : (f : TaskKept → TaskKept) (ks : List TaskKept) → map (only None f) ks ≡ ks
only-none f [] = refl
only-none f (k ∷ ks) = ap (λ xs. k ∷ xs) (only-none f ks)

-- a row of another task stays
others : (t : ℕ) (f : TaskKept → TaskKept) (k : TaskKept) → (k.task == t) ≡ false → only (Some t) f k ≡ k
others t f k other = rw other refl

-- where none is the task's none is changed
pub only-absent : (t : ℕ) (f : TaskKept → TaskKept) (ks : List TaskKept) → IsPositionOf t ks None → map (only (Some t) f) ks ≡ ks
only-absent t f ks h = none-changed (λ (k : TaskKept). k.task) (only (Some t) f) t (others t f) ks h

-- the row in the task's position is, and no other
pub only-position : (t : ℕ) (f : TaskKept → TaskKept) (ks : List TaskKept) (i : ℕ) (d : TaskKept) → IsDistinct (tasks_listed ks) → i < length ks → (get_or ks i d).task ≡ t
    → set ks i (f (get_or ks i d)) ≡ map (only (Some t) f) ks
only-position t f ks i d once low is = ap (set ks i) here ∙ one-changed (λ (k : TaskKept). k.task) (only (Some t) f) t (others t f) ks i d once low is
  where
    here : f (get_or ks i d) ≡ only (Some t) f (get_or ks i d)
    here = let same : ((get_or ks i d).task == t) ≡ true = grind (arith, nat_tests) in rw same refl

-- ---- of two

-- two tasks that differ are not one
apart : (a b : Option ℕ) → a ≢ b → (t : ℕ) → is t a ≡ true → is t b ≡ false
apart None b ne t h = cc
apart (Some x) None ne t h = refl
apart (Some x) (Some y) ne t h = by_case (t == y) refl
  where
    by_case : (c : Bool) → (t == y) ≡ c → c ≡ false
    by_case false e = refl
    by_case true e = let same : x ≡ y = grind (arith, nat_tests) in absurd (ne (ap Some same))

module _ (f : TaskKept → TaskKept) (a b : Option ℕ) where
  -- a row that is neither task's stays
  abbrev pub Stays : TaskKept → Type 0
  Stays k = is k.task a ≡ false → is k.task b ≡ false → f k ≡ k

  pub only-one : b ≡ a → (ks : List TaskKept) → All Stays ks → map (only a f) ks ≡ map f ks
  only-one same [] stay = refl
  only-one same (k ∷ ks) stay = λ i. first (is k.task a) refl i ∷ only-one same ks (λ j d low. stay (suc j) d (omega arith)) i
    where
      first : (c : Bool) → is k.task a ≡ c → (if c then f k else k) ≡ f k
      first true e = refl
      first false e = sym (stay 0 k (omega arith) e (ap (is k.task) same ∙ e))

  pub only-both : a ≢ b → ((k : TaskKept) → (f k).task ≡ k.task) → (ks : List TaskKept) → All Stays ks → map (only b f) (map (only a f) ks) ≡ map f ks
  only-both ne keeps [] stay = refl
  only-both ne keeps (k ∷ ks) stay = λ i. first (is k.task a) refl i ∷ only-both ne keeps ks (λ j d low. stay (suc j) d (omega arith)) i
    where
      second : (c : Bool) → is k.task b ≡ c → is k.task a ≡ false → (if c then f k else k) ≡ f k
      second true e other = refl
      second false e other = sym (stay 0 k (omega arith) other e)

      first : (c : Bool) → is k.task a ≡ c → only b f (if c then f k else k) ≡ f k
      first true e = let gone : is (f k).task b ≡ false = ap (λ t. is t b) (keeps k) ∙ apart a b ne k.task e in rw gone refl
      first false e = second (is k.task b) refl e

  -- the tasks are those before
  pub only-tasks : ((k : TaskKept) → (f k).task ≡ k.task) → (ks : List TaskKept) → tasks_listed (map (only a f) ks) ≡ tasks_listed ks
  only-tasks keeps [] = refl
  only-tasks keeps (k ∷ ks) = λ i. first (is k.task a) i ∷ only-tasks keeps ks i
    where
      first : (c : Bool) → (if c then f k else k).task ≡ k.task
      first true = keeps k
      first false = refl

-- what holds of a row by its task holds of it then
pub only-still : (f : TaskKept → TaskKept) (a : Option ℕ) (P : ℕ → Type 0) → ((k : TaskKept) → (f k).task ≡ k.task) → (ks : List TaskKept) → All (λ (k : TaskKept). P k.task) ks
    → All (λ (k : TaskKept). P k.task) (map (only a f) ks)
only-still f a P keeps [] all j d low = absurd (omega arith)
only-still f a P keeps (k ∷ ks) all zero d low = first (is k.task a)
  where
    first : (c : Bool) → P (if c then f k else k).task
    first true = subst P (sym (keeps k)) (all 0 k (omega arith))
    first false = all 0 k (omega arith)
only-still f a P keeps (k ∷ ks) all (suc j) d low = only-still f a P keeps ks (λ i e h. all (suc i) e (omega arith)) j d (omega arith)

-- ---- positions, as code finds them

-- no task has no number
pub no-number : (o : Option TaskNo) → ((t : TaskNo) → o ≢ Some t) → number_of_task o ≡ None
no-number None h = refl
no-number (Some t) h = absurd (h t refl)

pub no-position : (t : ℕ) (ks : List TaskKept) (o : Option ℕ) → IsPositionOf t ks o → ((i : ℕ) → o ≢ Some i) → IsPositionOf t ks None
no-position t ks None at h = at
no-position t ks (Some i) at h = absurd (h i refl)

-- ---- a unit leaves the rows of other tasks and processors, and the end of a job those of other tasks

-- where none was told there is none
no-unit : (g : Group) (m : Moment) (o : Option Unit) → ((u : Unit) → o ≢ Some u) → IsTold g m o → is_unit m ≡ false
no-unit g m None h told = told
no-unit g m (Some u) h told = absurd (h u refl)

pub none-worked : (g : Group) (m : Moment) (o : Option Unit) → ((u : Unit) → o ≢ Some u) → IsTold g m o → (ks : List TaskKept) → map (task_worked g m) ks ≡ ks
none-worked g m o h told = let none = no-unit g m o h told in all-stay (task_worked g m) (λ k. rw none refl)

pub none-acted : (g : Group) (m : Moment) (o : Option Unit) → ((u : Unit) → o ≢ Some u) → IsTold g m o → (ks : List CpuKept) → map (cpu_acted g m) ks ≡ ks
none-acted g m o h told = let none = no-unit g m o h told in all-stay (cpu_acted g m) (λ k. rw none refl)

pub none-done : (m : Moment) → m.act.ended ≡ None → (ks : List TaskKept) → map (task_done m) ks ≡ ks
none-done m none = all-stay (task_done m) (λ k. rw none refl)

pub worked-stays : (g : Group) (m : Moment) (t : ℕ) → m.act.task ≡ Some t → (k : TaskKept) → (k.task == t) ≡ false → task_worked g m k ≡ k
worked-stays g m t own k other = let none : is_unit m && is k.task m.act.task ≡ false = rw (own, other, and_false (is_unit m)) refl in rw none refl

pub done-stays : (m : Moment) (t : ℕ) → m.act.ended ≡ Some t → (k : TaskKept) → (k.task == t) ≡ false → task_done m k ≡ k
done-stays m t own k other = rw (own, other) refl

pub done-own : (m : Moment) (t : ℕ) → m.act.ended ≡ Some t → (k : TaskKept) → k.task ≡ t → task_done m k ≡ record k { end = true }
done-own m t own k is = let here : (k.task == t) ≡ true = grind (arith, nat_tests) in rw (own, here) refl

pub unit-stays : (g : Group) (m : Moment) (k : CpuKept) → (k.cpu == m.act.cpu) ≡ false → cpu_acted g m k ≡ k
unit-stays g m k other = let none : is_unit m && m.act.cpu == k.cpu ≡ false = rw (apart-back, and_false (is_unit m)) refl in rw none refl
  where
    apart-back : (m.act.cpu == k.cpu) ≡ false
    apart-back = grind (arith, nat_tests)
