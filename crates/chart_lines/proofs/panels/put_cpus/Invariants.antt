use Rattle.std.proofs.Common.{◌≡◌, ◌++◌, map, drop, flat_map}
use Rattle.chart_texts.specs.CpuLines.{cpu_lines}
use Rattle.chart_cells.specs.Charts.{cpu_row_shown}
use Rattle.chart_lines.proofs.panels.put_cpus.Given as goal

-- what was written, and then the rest of the rows, are all the rows
abbrev pub invariant-loop-row : goal.invariant-loop-row
invariant-loop-row l = l.out.items ++ flat_map (cpu_lines l.width) (map cpu_row_shown (drop l.row-index l.rows)) ≡ l.fn.out.items ++ flat_map (cpu_lines l.width) (map cpu_row_shown l.rows)
