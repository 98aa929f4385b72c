use Rattle.std.proofs.Common.{◌≡◌, ◌++◌, map, flat_map, drop}
use Rattle.chart_cells.specs.Cells.{column_shown, run_shown}
use Rattle.chart_texts.specs.TaskLines as spec
use Rattle.chart_lines.proofs.tasks.put_cell_signs.Given as goal

-- the signs so far, and then those of the rest, are all
abbrev pub invariant-loop-marks : goal.invariant-loop-marks
invariant-loop-marks l = l.signs.items ++ flat_map spec.cell_signs (map (column_shown l.run.cell) (drop l.marks-index l.run.marks.items)) ≡ l.fn.signs.items ++ flat_map spec.cell_signs (run_shown l.run)
