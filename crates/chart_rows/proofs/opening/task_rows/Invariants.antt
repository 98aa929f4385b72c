use Rattle.std.proofs.Common.{◌≡◌, [], map, take}
use Rattle.rt_base.specs.TaskNos.{numbers}
use Rattle.rt_model.specs.Group.{Group}
use Rattle.chart_rows.specs.Rows.{task_kept}
use Rattle.chart_rows.specs.Strips.{blank}
use Rattle.chart_rows.proofs.opening.task_rows.Given as goal

-- the rows of those so far
abbrev pub invariant-loop-task : goal.invariant-loop-task
invariant-loop-task l = (g : Group) → l.rows.items ≡ map (task_kept g [] blank) (numbers (take l.task-index l.tasks))
