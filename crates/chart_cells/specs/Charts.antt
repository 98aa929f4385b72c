-- Charts as the definitions have them.
use Rattle.std.specs.Prelude.{map}
use Rattle.chart_texts.specs.Charts as charts
use Rattle.chart_cells.specs.Cells.{cpu_cell_shown, runs_shown}
use Rattle.chart_cells.specs.declared.chart.Chart.{Chart}
use Rattle.chart_cells.specs.declared.chart.CpuRow.{CpuRow}
use Rattle.chart_cells.specs.declared.chart.Panel.{Panel}
use Rattle.chart_cells.specs.declared.chart.ResvRow.{ResvRow}
use Rattle.chart_cells.specs.declared.chart.TaskRow.{TaskRow}

abbrev pub task_row_shown : TaskRow → charts.TaskRow
task_row_shown r = record { task = r.task.0; cells = runs_shown r.runs.items }

abbrev pub cpu_row_shown : CpuRow → charts.CpuRow
cpu_row_shown r = record { cpu = r.cpu.0; cells = map cpu_cell_shown r.cells.items }

abbrev pub resv_row_shown : ResvRow → charts.ResvRow
resv_row_shown r = record { resv = r.resv.0; left = r.left.items }

abbrev pub panel_shown : Panel → charts.Panel
panel_shown p = record {
  group = p.group.0;
  labels = p.labels.items;
  clocks = p.clocks.items;
  last = p.last.0;
  tasks = map task_row_shown p.tasks.items;
  cpus = map cpu_row_shown p.cpus.items;
  resvs = map resv_row_shown p.resvs.items;
}

abbrev pub chart_shown : Chart → charts.Chart
chart_shown c = record { length = c.length; panels = map panel_shown c.panels.items }
