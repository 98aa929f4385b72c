-- The loop that brings up the tasks of a cluster, by rising number, and bringing up tasks after others.
use Rattle.std.proofs.Common.{◌≡◌, ◌≢◌, ℕ, suc, ◌-◌, ◌<◌, Bool, true, false, cond, List, [], ◌∷◌, ◌++◌, length, get_or, eq-eqb, refl, ◌∙◌, arith}
use Rattle.std.specs.Prelude.{◌==◌}
use Rattle.std.specs.List.{filter}
use Rattle.std.proofs.lemmas.Bool.{ne_eqb}
use Rattle.rt_task.specs.declared.Parts.{Parts}
use Rattle.rt_rules.specs.Numbers.{has, numbers_from}
use Rattle.rt_rules.proofs.BoolLaws.{or_true}
use Rattle.rt_rules.proofs.MemberLaws.{has-append, has-filter}
use Rattle.rt_rules.proofs.NumberLaws.{numbers_from-has}
use Rattle.rt_model.specs.Group.{no_task}
use Rattle.group_jobs.specs.GroupJobs.{task_in}
use Rattle.group_core.specs.Facts.{tasks_in_cluster}
use Rattle.group_engine.specs.declared.state.GroupState.{GroupState}
use Rattle.group_engine.specs.inside.Touching.{AreNumbered, CanUpdate, CanUpdateAll, all_updated, updated}
use Rattle.group_engine.proofs.Updating.{can-after, can-after-all}

-- ---- these, and then those

pub all-append : (p : Parts) (xs ys : List ℕ) (s : GroupState) → all_updated p (xs ++ ys) s ≡ all_updated p ys (all_updated p xs s)
all-append p [] ys s = refl
all-append p (x ∷ xs) ys s = all-append p xs ys (updated p x s)

pub can-front : (p : Parts) (xs ys : List ℕ) (s : GroupState) → AreNumbered p (xs ++ ys) s → CanUpdateAll p xs s
can-front p xs ys s all t h = (all t (has-append t xs ys ∙ rw h)).0

pub can-behind : (p : Parts) (xs ys : List ℕ) (s : GroupState) → AreNumbered p (xs ++ ys) s → AreNumbered p ys (all_updated p xs s)
can-behind p xs ys s all t h = let one = all t (has-append t xs ys ∙ rw h (or_true (has t xs))) in (can-after-all p t xs s one.0, one.1)

-- ---- the tasks of a cluster but those among the first i of the set

abbrev cluster_behind : Parts → ℕ → ℕ → List ℕ
cluster_behind p c i = filter (λ t. (task_in p.tasks t).cluster.0 == c) (numbers_from (suc i) (length p.tasks - i))

behind-one : (p : Parts) (c i : ℕ) → i < length p.tasks
    → cluster_behind p c i ≡ cond ((task_in p.tasks (suc i)).cluster.0 == c) (suc i ∷ cluster_behind p c (suc i)) (cluster_behind p c (suc i))
behind-one p c i low = let left : length p.tasks - i ≡ suc (length p.tasks - suc i) = omega arith in rw left refl

-- those of the cluster among the first i tasks of the set have been looked at
pub record AreToTest (p : Parts) (c i : ℕ) (start s : GroupState) : Type 0 where
  pub can : AreNumbered p (tasks_in_cluster p c) s
  pub rest : all_updated p (cluster_behind p c i) s ≡ all_updated p (tasks_in_cluster p c) start

pub to-test-first : (p : Parts) (c : ℕ) (s : GroupState) → AreNumbered p (tasks_in_cluster p c) s → AreToTest p c 0 s s
to-test-first p c s h = record {
  can = h;
  rest = let all : length p.tasks - 0 ≡ length p.tasks = omega arith in rw all refl;
}

-- the cluster of the task that comes next
abbrev pub next_home : Parts → ℕ → ℕ
next_home p i = (get_or p.tasks i no_task).cluster.0

next-in : (p : Parts) (c i : ℕ) (b : Bool) → next_home p i == c ≡ b → (task_in p.tasks (suc i)).cluster.0 == c ≡ b
next-in p c i b e = let place : suc i - 1 ≡ i = omega arith in rw place e

next-has : (p : Parts) (c i : ℕ) → i < length p.tasks → next_home p i == c ≡ true → has (suc i) (tasks_in_cluster p c) ≡ true
next-has p c i low e =
    let inside : has (suc i) (numbers_from 1 (length p.tasks)) ≡ true = numbers_from-has 1 (length p.tasks) (suc i) (omega arith) (omega arith) in
    has-filter (λ t. (task_in p.tasks t).cluster.0 == c) (suc i) (numbers_from 1 (length p.tasks)) ∙ rw (inside, next-in p c i true e) refl

module _ (p : Parts) (c i : ℕ) (start s : GroupState) (h : AreToTest p c i start s) where
  -- the next task is of the cluster
  pub next-can : i < length p.tasks → next_home p i ≡ c → CanUpdate p (suc i) s × ((task_in p.tasks (suc i)).number.0 ≡ suc i)
  next-can low is = h.can (suc i) (next-has p c i low (eq-eqb (next_home p i) c is))

  pub to-test-in : i < length p.tasks → next_home p i ≡ c → AreToTest p c (suc i) start (updated p (suc i) s)
  to-test-in low is = record {
    can = λ t k. (can-after p t (suc i) s (h.can t k).0, (h.can t k).1);
    rest = rw (behind-one p c i low, next-in p c i true (eq-eqb (next_home p i) c is)) at h.rest;
  }

  -- the next task is of another cluster
  pub to-test-out : i < length p.tasks → next_home p i ≢ c → AreToTest p c (suc i) start s
  to-test-out low other = record {
    can = h.can;
    rest = rw (behind-one p c i low, next-in p c i false (ne_eqb (next_home p i) c other)) at h.rest;
  }
