use Rattle.std.proofs.Common.{◌≡◌, ℕ, ◌+◌, ◌-◌, ◌++◌, flat_map}
use Rattle.rt_rules.specs.Numbers.{numbers_from}
use Rattle.chart_cells.specs.Charts.{panel_shown}
use Rattle.svg_texts.specs.Grids.{grid_line}
use Rattle.svg_lines.proofs.grid.put_grid.Given as goal

-- the lines so far, and then the rest, are the grid
abbrev pub invariant-loop-i : goal.invariant-loop-i
invariant-loop-i l =
    let text = λ (i : ℕ). grid_line l.grid.axis l.grid.step l.grid.edge l.grid.y (panel_shown l.panel) l.grid.height (l.from + i) i in
    l.out.items ++ flat_map text (numbers_from l.i (l.columns + 1 - l.i)) ≡ l.fn.out.items ++ flat_map text (numbers_from 0 (l.columns + 1))
