use Rattle.std.proofs.Common.{◌≡◌, ◌-◌, ◌++◌, map, drop, flat_map, slice_index_or}
use Rattle.rt_model.specs.Group.{no_resv}
use Rattle.chart_texts.specs.Charts as charts
use Rattle.chart_texts.specs.CpuLines.{resv_line}
use Rattle.chart_cells.specs.Charts.{resv_row_shown}
use Rattle.chart_lines.proofs.panels.put_resvs.Given as goal

-- what was written, and then the rest of the rows, are all the rows
abbrev pub invariant-loop-row : goal.invariant-loop-row
invariant-loop-row l =
    let text = λ (r : charts.ResvRow). resv_line (slice_index_or l.resvs (r.resv - 1) no_resv).name l.width r in
    l.out.items ++ flat_map text (map resv_row_shown (drop l.row-index l.rows)) ≡ l.fn.out.items ++ flat_map text (map resv_row_shown l.rows)
