use Rattle.std.proofs.Common.{◌≡◌, ◌++◌, map, drop}
use Rattle.chart_cells.specs.Cells.{cpu_cell_shown}
use Rattle.svg_lines.specs.Shown.{cpu_part_of, part_shown}
use Rattle.svg_lines.proofs.parts.cpu_parts.Given as goal

-- the parts so far, and then those of the rest, are all
abbrev pub invariant-loop-cell : goal.invariant-loop-cell
invariant-loop-cell l = map part_shown l.parts.items ++ map (cpu_part_of l.lane) (map cpu_cell_shown (drop l.cell-index l.cells)) ≡ map (cpu_part_of l.lane) (map cpu_cell_shown l.cells)
