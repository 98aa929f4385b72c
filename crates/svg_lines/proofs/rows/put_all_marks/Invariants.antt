use Rattle.std.proofs.Common.{◌≡◌, ◌++◌, drop}
use Rattle.chart_cells.specs.Cells.{runs_shown}
use Rattle.svg_texts.specs.TaskRows.{marks_from}
use Rattle.svg_lines.proofs.rows.put_all_marks.Given as goal

-- what was written, and then the rest, is the whole
abbrev pub invariant-loop-run : goal.invariant-loop-run
invariant-loop-run l = l.out.items ++ marks_from l.edge l.y l.column (runs_shown (drop l.run-index l.runs)) ≡ l.fn.out.items ++ marks_from l.edge l.y 0 (runs_shown l.runs)
