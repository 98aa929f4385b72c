use Rattle.std.proofs.Common.{◌≡◌, ◌+◌, ◌++◌, map, drop}
use Rattle.chart_cells.specs.Cells.{column_shown}
use Rattle.chart_cells.specs.declared.cells.Cell.{Cell}
use Rattle.svg_texts.specs.TaskRows.{marks_from}
use Rattle.svg_lines.proofs.rows.put_columns_marks.Given as goal

-- what was written, and then the rest, is the whole
abbrev pub invariant-loop-i : goal.invariant-loop-i
invariant-loop-i l = (c : Cell) → l.out.items ++ marks_from l.edge l.y (l.column + l.i) (map (column_shown c) (drop l.i l.columns)) ≡ l.fn.out.items ++ marks_from l.edge l.y l.column (map (column_shown c) l.columns)
