use Rattle.std.proofs.Common.{◌≡◌, ◌++◌, map, drop}
use Rattle.chart_cells.specs.Charts.{cpu_row_shown}
use Rattle.svg_texts.specs.CpuRows.{cpu_rows}
use Rattle.svg_lines.proofs.rows.put_cpu_rows.Given as goal

-- what was written, and then the rest, is the whole
abbrev pub invariant-loop-i : goal.invariant-loop-i
invariant-loop-i l = l.out.items ++ cpu_rows l.set l.field.edge l.field.columns l.y l.i (map cpu_row_shown (drop l.i l.rows)) ≡ l.fn.out.items ++ cpu_rows l.set l.field.edge l.field.columns l.y 0 (map cpu_row_shown l.rows)
