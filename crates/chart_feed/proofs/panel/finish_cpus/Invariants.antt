use Rattle.std.proofs.Common.{All, List}
use Rattle.rt_model.specs.Group.{Group}
use Rattle.trace_views.specs.Columns.{Column}
use Rattle.chart_cells.specs.Charts.{cpu_row_shown}
use Rattle.chart_texts.specs.Charts.{cpu_row_in}
use Rattle.chart_feed.specs.inside.Panels.{IsCpuRow}
use Rattle.chart_rows.specs.Rows.{CpuKept}
use Rattle.chart_feed.proofs.Paneled.{AreMade}
use Rattle.chart_feed.proofs.panel.finish_cpus.Given as goal

-- those so far are made
abbrev pub invariant-loop-row : goal.invariant-loop-row
invariant-loop-row l = (g : Group) (cs : List Column) → All (IsCpuRow g cs) l.fn.rows.items
    → AreMade (IsCpuRow g cs) cpu_row_shown (λ (k : CpuKept). cpu_row_in g cs k.cpu) l.fn.rows.items l.row-iterator.rest.items l.made.items
