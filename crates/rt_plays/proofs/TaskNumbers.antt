-- A task of a group bears its own number.
use Rattle.std.proofs.Common.{arith, length, true, ℕ, ◌-◌, ◌<◌, ◌≡◌}
use Rattle.rt_task.specs.Validity.{IsValid}
use Rattle.rt_rules.specs.Numbers.{has}
use Rattle.rt_model.specs.Group.{Group, task, tasks}
use Rattle.rt_plays.specs.Limits.{IsInLimits}
use Rattle.rt_plays.specs.AtHome.{IsHomeTask}
use Rattle.rt_plays.proofs.AtHomeLaws.{tasks_are_at_home}
use Rattle.rt_plays.proofs.SetLimits.{sets_are_in_limits}

pub task-number : (g : Group) (t : ℕ) → IsValid g.setup → has t (tasks g) ≡ true → (task g t).number.0 ≡ t
unfolding task
task-number g t valid h =
    let at : IsHomeTask g t = tasks_are_at_home g t valid h in
    let limits : IsInLimits g.setup = sets_are_in_limits g.setup valid in
    let inside : t - 1 < length g.setup.tasks = omega (arith, at.low, at.high) in
    omega (arith, at.low, (limits.tasks_in (t - 1) inside).number_is)
