use Rattle.std.proofs.Common.{◌≡◌, ◌++◌, flat_map, drop}
use Rattle.chart_cells.specs.Cells.{runs_shown}
use Rattle.chart_texts.specs.TaskLines as spec
use Rattle.chart_lines.proofs.tasks.held_signs.Given as goal

-- the signs so far, and then those of the rest, are all
abbrev pub invariant-loop-run : goal.invariant-loop-run
invariant-loop-run l = l.signs.items ++ flat_map spec.held_signs (runs_shown (drop l.run-index l.runs)) ≡ flat_map spec.held_signs (runs_shown l.runs)
