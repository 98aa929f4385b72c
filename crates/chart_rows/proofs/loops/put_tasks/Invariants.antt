use Rattle.std.proofs.Common.{◌≡◌}
use Rattle.rt_model.specs.Group.{Group}
use Rattle.chart_rows.specs.Rows as rows
use Rattle.chart_rows.proofs.Changed.{changed}
use Rattle.chart_rows.proofs.loops.put_tasks.Given as goal

-- those so far have begun the next column
abbrev pub invariant-loop-row : goal.invariant-loop-row
invariant-loop-row l = (g : Group) → l.tasks ≡ changed (rows.task_put g) l.row-index l.fn.tasks
