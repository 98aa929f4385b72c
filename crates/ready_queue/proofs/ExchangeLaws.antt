-- Which task leaves the first ones and which comes, as one task is taken out or put in.
use Rattle.std.proofs.Common.{◌≡◌, ℕ, Bool, true, false, not, ◌&&◌, ◌||◌, cond, eqb-true, List, [], ◌∷◌, ◌++◌, refl, sym, ap, ◌∙◌, subst}
use Rattle.std.specs.Prelude.{◌==◌, Option, None, Some}
use Rattle.rt_rules.specs.declared.Key.{Key}
use Rattle.rt_rules.specs.Distinct.{IsDistinct}
use Rattle.rt_rules.specs.Keys.{Ranked, inserted}
use Rattle.rt_rules.specs.Numbers.{has, is}
use Rattle.rt_rules.specs.Rankings.{tasks_of, without_task}
use Rattle.rt_rules.proofs.BoolLaws.{and_false, or_else}
use Rattle.rt_rules.proofs.RankedLaws.{distinct-inserted, has-inserted}
use Rattle.ready_queue.specs.Exchanges.{IsExchanged}
use Rattle.ready_queue.specs.Queue.{IsSplit, Queue, first_tasks}
use Rattle.ready_queue.proofs.FirstLaws.{first-top}
use Rattle.ready_queue.proofs.SplitLaws.{has-front, has-last, has-without, last-alone}

kept : (b : Bool) → (b && true) || false ≡ b
kept true = refl
kept false = refl

-- nothing leaves and nothing comes where the tasks are the same
pub none-exchanged : (old new : List ℕ) → ((u : ℕ) → has u new ≡ has u old) → IsExchanged old new None None
none-exchanged old new same = record {
  was = λ u h. cc;
  was_not = λ u h. cc;
  first = λ u. same u ∙ sym (kept (has u old));
}

-- lists of the same tasks are exchanged alike
pub alike-exchanged : (old old' new new' : List ℕ) (left came : Option ℕ) → ((u : ℕ) → has u old ≡ has u old') → ((u : ℕ) → has u new ≡ has u new')
    → IsExchanged old new left came → IsExchanged old' new' left came
alike-exchanged old old' new new' left came was now e = record {
  was = λ u h. sym (was u) ∙ e.was u h;
  was_not = λ u h. sym (was u) ∙ e.was_not u h;
  first = λ u. sym (now u) ∙ e.first u ∙ ap (λ b. (b && not (is u left)) || is u came) (was u);
}

-- of two lists the new one has a task that the old one has not just where it came
pub comes : (t : ℕ) (old new : List ℕ) (left came : Option ℕ) → IsExchanged old new left came → has t old ≡ false → has t new ≡ is t came
comes t old new left came e absent = e.first t ∙ rw absent

-- what the queue keeps as the first ones is exchanged as they are
pub first-exchanged : (q q' : Queue) (top top' : List Ranked) (rest rest' : List (Option Key)) (left came : Option ℕ) → IsSplit q top rest → IsSplit q' top' rest'
    → IsExchanged (tasks_of top) (tasks_of top') left came → IsExchanged (first_tasks q.most q.keys) (first_tasks q'.most q'.keys) left came
first-exchanged q q' top top' rest rest' left came s s' =
    alike-exchanged (tasks_of top) (first_tasks q.most q.keys) (tasks_of top') (first_tasks q'.most q'.keys) left came (first-top q top rest s) (first-top q' top' rest' s')

-- one is taken out, and none follows
pub exchanged-taken : (t : ℕ) (top : List Ranked) → IsDistinct (tasks_of top) → has t (tasks_of top) ≡ true → IsExchanged (tasks_of top) (tasks_of (without_task t top)) (Some t) None
exchanged-taken t top d there = record {
  was = λ u h. rw (eqb-true u t h) there;
  was_not = λ u h. cc;
  first = λ u. has-without t u top d ∙ by_case (u == t) (has u (tasks_of top));
}
  where
    by_case : (b c : Bool) → cond b false c ≡ (c && not b) || false
    by_case true true = refl
    by_case true false = refl
    by_case false true = refl
    by_case false false = refl

-- or another follows it
pub exchanged-followed : (t : ℕ) (r : Ranked) (top : List Ranked) → IsDistinct (tasks_of top) → has t (tasks_of top) ≡ true → has r.task (tasks_of top) ≡ false
    → IsExchanged (tasks_of top) (tasks_of (inserted r (without_task t top))) (Some t) (Some r.task)
exchanged-followed t r top d there apart = record {
  was = λ u h. rw (eqb-true u t h) there;
  was_not = λ u h. rw (eqb-true u r.task h) apart;
  first = λ u. has-inserted u r (without_task t top) ∙ rw (has-without t u top d) (by_case (u == t) (has u (tasks_of top)) (u == r.task));
}
  where
    by_case : (b c a : Bool) → a || cond b false c ≡ (c && not b) || a
    by_case true true true = refl
    by_case true true false = refl
    by_case true false true = refl
    by_case true false false = refl
    by_case false true true = refl
    by_case false true false = refl
    by_case false false true = refl
    by_case false false false = refl

-- one is put in
pub exchanged-put : (a : Ranked) (top : List Ranked) → has a.task (tasks_of top) ≡ false → IsExchanged (tasks_of top) (tasks_of (inserted a top)) None (Some a.task)
exchanged-put a top absent = record {
  was = λ u h. cc;
  was_not = λ u h. rw (eqb-true u a.task h) absent;
  first = λ u. has-inserted u a top ∙ by_case (u == a.task) (has u (tasks_of top));
}
  where
    by_case : (b c : Bool) → b || c ≡ (c && true) || b
    by_case true true = refl
    by_case true false = refl
    by_case false true = refl
    by_case false false = refl

-- the last makes room for one that is put in
module _ (a l : Ranked) (top front : List Ranked) (d : IsDistinct (tasks_of top)) (absent : has a.task (tasks_of top) ≡ false) (is_split : inserted a top ≡ front ++ l ∷ []) where
  last-gone : has l.task (tasks_of front) ≡ false
  last-gone = last-alone l front (subst (λ rs. IsDistinct (tasks_of rs)) is_split (distinct-inserted a top absent d))

  others-stay : (u : ℕ) → u == l.task ≡ false → has u (tasks_of front) ≡ u == a.task || has u (tasks_of top)
  others-stay u other = sym (has-front u l front other) ∙ ap (λ rs. has u (tasks_of rs)) (sym is_split) ∙ has-inserted u a top

  -- which is that one
  pub exchanged-itself : l.task ≡ a.task → IsExchanged (tasks_of top) (tasks_of front) None None
  exchanged-itself same = none-exchanged (tasks_of top) (tasks_of front) (λ u. by_case u (u == l.task) refl)
    where
      by_case : (u : ℕ) (b : Bool) → u == l.task ≡ b → has u (tasks_of front) ≡ has u (tasks_of top)
      by_case u true e = rw (eqb-true u l.task e) (last-gone ∙ sym (rw same absent))
      by_case u false e = let other : u == a.task ≡ false = rw same at e in others-stay u e ∙ rw other

  -- or another
  pub exchanged-over : l.task == a.task ≡ false → IsExchanged (tasks_of top) (tasks_of front) (Some l.task) (Some a.task)
  exchanged-over other = record {
    was = λ u h. rw (eqb-true u l.task h) last-was;
    was_not = λ u h. rw (eqb-true u a.task h) absent;
    first = λ u. by_case u (u == l.task) refl;
  }
    where
      last-was : has l.task (tasks_of top) ≡ true
      last-was = or_else (l.task == a.task) (has l.task (tasks_of top)) (sym (has-inserted l.task a top) ∙ ap (λ rs. has l.task (tasks_of rs)) is_split ∙ has-last l front) other

      turn : (b c : Bool) → b || c ≡ (c && true) || b
      turn true true = refl
      turn true false = refl
      turn false true = refl
      turn false false = refl

      by_case : (u : ℕ) (b : Bool) → u == l.task ≡ b → has u (tasks_of front) ≡ (has u (tasks_of top) && not b) || u == a.task
      by_case u true e = rw (eqb-true u l.task e, last-gone, other, and_false (has l.task (tasks_of top)))
      by_case u false e = others-stay u e ∙ turn (u == a.task) (has u (tasks_of top))
