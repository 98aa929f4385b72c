use Rattle.std.proofs.Common.{◌≡◌, map, drop}
use Rattle.chart_cells.specs.Charts.{panel_shown}
use Rattle.svg_texts.specs.Grids.{clocks_short}
use Rattle.svg_lines.proofs.grid.clocks_short.Given as goal

-- those so far are short
abbrev pub invariant-loop-panel : goal.invariant-loop-panel
invariant-loop-panel l = clocks_short (map panel_shown (drop l.panel-index l.panels)) ≡ clocks_short (map panel_shown l.panels)
