use Rattle.std.proofs.Common.{◌∙◌, false, ap}
use Rattle.chart_cells.specs.Cells.{cell_shown}
use Rattle.chart_rows.specs.Rows.{task_cleared}
use Rattle.chart_rows.specs.RunCells.{cells_of_runs, ends_of_runs}
use Rattle.chart_rows.proofs.tasks.TaskFeed.take.Goals as goal

pub returns-clause-row : goal.returns-clause-row
returns-clause-row c = λ g.
    (λ i. record {
      task = c.self.inside.task.0;
      cells = cells_of_runs c.self.inside.closed.items;
      ends = ends_of_runs c.self.inside.closed.items;
      kept = (ap cell_shown c.replace.ensures.after ∙ c.away.ensures g) i;
      end = false;
    })
    ∙ ap (task_cleared g) c.self.view_is
