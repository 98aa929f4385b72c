use Rattle.std.proofs.Common.{◌≡◌, ◌-◌, ◌++◌, map, drop, flat_map, slice_index_or}
use Rattle.rt_model.specs.Group.{no_task}
use Rattle.chart_texts.specs.ChartText as spec
use Rattle.chart_texts.specs.Charts as charts
use Rattle.chart_cells.specs.Charts.{task_row_shown}
use Rattle.chart_lines.proofs.panels.put_tasks.Given as goal

-- what was written, and then the rest of the rows, are all the rows
abbrev pub invariant-loop-row : goal.invariant-loop-row
invariant-loop-row l =
    let text = λ (r : charts.TaskRow). spec.task_text (slice_index_or l.tasks (r.task - 1) no_task) l.width r in
    l.out.items ++ flat_map text (map task_row_shown (drop l.row-index l.rows)) ≡ l.fn.out.items ++ flat_map text (map task_row_shown l.rows)
