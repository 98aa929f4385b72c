-- The rows of a set are its tasks.
use Rattle.std.proofs.Common.{◌≡◌, ℕ, zero, suc, true, List, [], ◌∷◌, ◌+◌, ◌-◌, ◌<◌, length, refl, sym, ap, subst, ◌∙◌, arith}
use Rattle.std.specs.Prelude.{slice_index_or, ◌==◌}
use Rattle.rt_base.specs.TaskNos.{numbers}
use Rattle.rt_base.specs.declared.TaskNo.{TaskNo}
use Rattle.rt_rules.specs.Numbers.{has}
use Rattle.rt_rules.proofs.BoolLaws.{or_true}
use Rattle.rt_rules.proofs.MemberLaws.{equal_self}
use Rattle.rt_base.specs.declared.TheConstants.{TICK_END}
use Rattle.rt_task.specs.declared.Parts.{Parts}
use Rattle.rt_task.specs.declared.Task.{Task}
use Rattle.rt_model.specs.Group.{no_task}
use Rattle.group_jobs.specs.Kept.{Kept}
use Rattle.group_jobs.specs.GroupJobs.{IsTaskOf, task_in}
use Rattle.group_core.specs.inside.Blocked.{CanRank, CanRankTask, home_in}

module _ (p : Parts) (k : Kept) (c i : ℕ) (x : Task) (can : CanRank p k c) (low : i < length p.tasks) (is : x ≡ slice_index_or p.tasks i no_task) where
  number : x.number.0 ≡ i + 1
  number = ap (λ (y : Task). y.number.0) is ∙ (can.limits.tasks_in i low).number_is

  pub row-own : x ≡ task_in p.tasks x.number.0
  row-own = let position : i ≡ x.number.0 - 1 = omega (arith, number) in is ∙ ap (λ n. slice_index_or p.tasks n no_task) position

  pub row-deadline : (task_in p.tasks x.number.0).rel_deadline < TICK_END
  row-deadline = subst (λ (y : Task). y.rel_deadline < TICK_END) (sym is ∙ row-own) (can.limits.tasks_in i low).deadline_low

  pub row-kept : x.cluster.0 ≡ c → IsTaskOf k p.tasks x.number.0
  row-kept home =
      let at_home : home_in p x.number.0 ≡ c = ap (λ (y : Task). y.cluster.0) (sym row-own) ∙ home in
      can.tasks x.number.0 (omega (arith, number)) (omega (arith, number, low)) at_home

-- a task of the set is at its position
module _ (p : Parts) (k : Kept) (t : ℕ) (can : CanRankTask p k t) where
  pub task-position : t - 1 < length p.tasks
  task-position = omega (arith, can.low, can.high)

  pub task-number : (task_in p.tasks t).number.0 ≡ t
  task-number = (can.ranks.limits.tasks_in (t - 1) task-position).number_is ∙ omega (arith, can.low)

  pub task-deadline : (task_in p.tasks t).rel_deadline < TICK_END
  task-deadline = (can.ranks.limits.tasks_in (t - 1) task-position).deadline_low

  pub task-kept : IsTaskOf k p.tasks t
  task-kept = can.ranks.tasks t can.low can.high refl

-- an item of a list is one of its numbers
pub item-has : (ts : List TaskNo) (i : ℕ) (d : TaskNo) → i < length ts → has (slice_index_or ts i d).0 (numbers ts) ≡ true
item-has [] i d low = absurd (omega (arith, low))
item-has (t ∷ ts) zero d low = rw (equal_self t.0) refl
item-has (t ∷ ts) (suc i) d low = rw (item-has ts i d (omega (arith, low))) (or_true ((slice_index_or ts i d).0 == t.0))
