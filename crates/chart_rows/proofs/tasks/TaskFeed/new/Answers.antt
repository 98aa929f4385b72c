use Rattle.std.proofs.Common.{false}
use Rattle.chart_rows.specs.RunCells.{cells_of_runs, ends_of_runs}
use Rattle.chart_rows.proofs.tasks.TaskFeed.new.Goals as goal

pub returns : goal.returns
returns c = λ g i. record {
  task = c.args.task.0;
  cells = cells_of_runs (c.new.ensures.items i);
  ends = ends_of_runs (c.new.ensures.items i);
  kept = c.away.ensures g i;
  end = false;
}
