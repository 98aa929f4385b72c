use Rattle.std.proofs.Common.{All, List, map}
use Rattle.rt_model.specs.Group.{Group}
use Rattle.rt_model.specs.Past.{Past}
use Rattle.trace_views.specs.Columns.{Column}
use Rattle.chart_cells.specs.Charts.{task_row_shown}
use Rattle.chart_texts.specs.Charts.{task_row_in}
use Rattle.chart_rows.specs.Rows.{TaskKept}
use Rattle.chart_feed.specs.inside.Marked.{edges_shown}
use Rattle.chart_feed.specs.inside.Panels.{IsTaskRow}
use Rattle.chart_feed.proofs.Paneled.{AreMade}
use Rattle.chart_feed.proofs.panel.finish_tasks.Given as goal

-- those so far are made
abbrev pub invariant-loop-row : goal.invariant-loop-row
invariant-loop-row l = (g : Group) (past : Past) (cs : List Column) → let IsRow : TaskKept → Type 0 = IsTaskRow g past cs l.tasks l.clocks l.now (map edges_shown l.edges) in
    All IsRow l.fn.rows.items → AreMade IsRow task_row_shown (λ (k : TaskKept). task_row_in g past cs k.task) l.fn.rows.items l.row-iterator.rest.items l.made.items
