use Rattle.std.proofs.Common.{◌∙◌, [], ap, map}
use Rattle.chart_rows.specs.Rows.{cpu_kept, resv_kept, rows_of, task_kept}
use Rattle.chart_rows.specs.Strips.{blank}
use Rattle.chart_rows.proofs.rows.Rows.open.Goals as goal

pub returns : goal.returns
unfolding rows_of
returns c = λ g tasks cpus resvs i. record {
  tasks = (c.in_ok-tasks.ensures g ∙ ap (map (task_kept g [] blank)) tasks) i;
  cpus = (c.in_ok-cpus.ensures g ∙ ap (map (cpu_kept g [] blank)) cpus) i;
  resvs = (c.in_ok-resvs.ensures g ∙ ap (map (resv_kept g [] blank)) resvs) i;
}
