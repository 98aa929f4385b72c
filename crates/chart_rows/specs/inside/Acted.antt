-- What a unit, and the end of a job, make of the row of a task.
use Rattle.std.specs.Prelude.{◌&&◌, ◌||◌, if◌then◌else◌}
use Rattle.rt_rules.specs.Numbers.{is}
use Rattle.rt_model.specs.Group.{Group}
use Rattle.trace_views.specs.Cells.{cell_at}
use Rattle.trace_views.specs.Cells as cells
use Rattle.trace_views.specs.Moments.{Moment, is_unit}
use Rattle.chart_cells.specs.Kept.{with_unit}
use Rattle.chart_rows.specs.Rows.{TaskKept}

abbrev pub task_worked : Group → Moment → TaskKept → TaskKept
task_worked g m k = record k {
  kept = if is_unit m && is k.task m.act.task then with_unit m.act.cpu (cell_at g cells.ready k.task m.before) k.kept else k.kept;
}

abbrev pub task_done : Moment → TaskKept → TaskKept
task_done m k = record k { end = is k.task m.act.ended || k.end }
