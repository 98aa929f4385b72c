use Rattle.std.proofs.Common.{◌+◌, ℕ}
use Rattle.chart_cells.specs.Charts.{panel_shown}
use Rattle.svg_texts.specs.Grids.{grid_line}
use Rattle.svg_lines.proofs.Numbers.{number-written}
use Rattle.svg_lines.proofs.grid.put_grid.Goals as goal

pub loop-i-preserved : goal.loop-i-preserved
loop-i-preserved c =
    number-written (λ (i : ℕ). grid_line c.args.grid.axis c.args.grid.step c.args.grid.edge c.args.grid.y (panel_shown c.args.panel.now) c.args.grid.height (c.args.from + i) i) c.loop-i.i (c.args.columns + 1) _ _ _ c.loop-i-test.true
    (rw (c.from.ensures, c.from-in-loop-i.ensures) at c.in_ok-put_grid_line.ensures) c.loop-i.invariant
