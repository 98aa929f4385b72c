-- The loop that brings up the tasks of a group, by rising number.
use Rattle.std.proofs.Common.{◌≡◌, ◌≢◌, ℕ, suc, ◌-◌, ◌<◌, Bool, true, false, cond, List, ◌∷◌, length, get_or, eq-eqb, refl, ◌∙◌, arith}
use Rattle.std.specs.Prelude.{◌==◌}
use Rattle.std.specs.List.{filter}
use Rattle.std.proofs.lemmas.Bool.{ne_eqb}
use Rattle.rt_task.specs.declared.Parts.{Parts}
use Rattle.rt_rules.specs.Numbers.{has, numbers_from}
use Rattle.rt_rules.proofs.MemberLaws.{has-filter}
use Rattle.rt_rules.proofs.NumberLaws.{numbers_from-has}
use Rattle.rt_model.specs.Group.{Group, cluster, home, in_group, no_cluster, no_task, task, tasks}
use Rattle.rt_plays.specs.Plays.{group_with}
use Rattle.group_engine.specs.declared.state.GroupState.{GroupState}
use Rattle.group_jobs.specs.GroupJobs.{task_in}
use Rattle.group_engine.specs.inside.Touching.{AreNumbered, CanUpdate, all_updated, updated}
use Rattle.group_engine.proofs.Updating.{can-after}

-- the tasks of the group but those among the first i of the set
abbrev tasks_behind : Group → ℕ → List ℕ
tasks_behind g i = filter (λ t. in_group g (home g t)) (numbers_from (suc i) (length g.setup.tasks - i))

behind-one : (g : Group) (i : ℕ) → i < length g.setup.tasks
    → tasks_behind g i ≡ cond (in_group g (home g (suc i))) (suc i ∷ tasks_behind g (suc i)) (tasks_behind g (suc i))
behind-one g i low = let left : length g.setup.tasks - i ≡ suc (length g.setup.tasks - suc i) = omega arith in rw left refl

-- a task can be looked at, and has its number
abbrev IsNumbered : Parts → ℕ → GroupState → Type 0
IsNumbered p t s = CanUpdate p t s × ((task_in p.tasks t).number.0 ≡ t)

-- those of the group among the first i tasks of the set have been looked at
pub record AreToCome (p : Parts) (n i : ℕ) (start s : GroupState) : Type 0 where
  pub can : AreNumbered p (tasks (group_with p n)) s
  pub rest : all_updated p (tasks_behind (group_with p n) i) s ≡ all_updated p (tasks (group_with p n)) start

pub to-come-first : (p : Parts) (n : ℕ) (s : GroupState) → AreNumbered p (tasks (group_with p n)) s → AreToCome p n 0 s s
unfolding tasks
to-come-first p n s h = record {
  can = h;
  rest = let all : length p.tasks - 0 ≡ length p.tasks = omega arith in rw all refl;
}

-- the group of the task that comes next
abbrev pub next_group : Parts → ℕ → ℕ
next_group p i = (get_or p.clusters (get_or p.tasks i no_task).cluster.0 no_cluster).group.0

next-in : (p : Parts) (n i : ℕ) (b : Bool) → next_group p i == n ≡ b → in_group (group_with p n) (home (group_with p n) (suc i)) ≡ b
unfolding in_group cluster home task
next-in p n i b e = let place : suc i - 1 ≡ i = omega arith in rw place e

next-has : (p : Parts) (n i : ℕ) → i < length p.tasks → next_group p i == n ≡ true → has (suc i) (tasks (group_with p n)) ≡ true
unfolding tasks
next-has p n i low e =
    let all : List ℕ = numbers_from 1 (length p.tasks) in
    let inside : has (suc i) all ≡ true = numbers_from-has 1 (length p.tasks) (suc i) (omega arith) (omega arith) in
    has-filter (λ t. in_group (group_with p n) (home (group_with p n) t)) (suc i) all ∙ rw (inside, next-in p n i true e)

module _ (p : Parts) (n i : ℕ) (start s : GroupState) (h : AreToCome p n i start s) where
  -- the next task is of the group
  pub next-can : i < length p.tasks → next_group p i ≡ n → IsNumbered p (suc i) s
  next-can low is = h.can (suc i) (next-has p n i low (eq-eqb (next_group p i) n is))

  pub to-come-in : i < length p.tasks → next_group p i ≡ n → AreToCome p n (suc i) start (updated p (suc i) s)
  to-come-in low is = record {
    can = λ t k. (can-after p t (suc i) s (h.can t k).0, (h.can t k).1);
    rest = rw (behind-one (group_with p n) i low, next-in p n i true (eq-eqb (next_group p i) n is)) at h.rest;
  }

  -- the next task is of another group
  pub to-come-out : i < length p.tasks → next_group p i ≢ n → AreToCome p n (suc i) start s
  to-come-out low other = record {
    can = h.can;
    rest = rw (behind-one (group_with p n) i low, next-in p n i false (ne_eqb (next_group p i) n other)) at h.rest;
  }
