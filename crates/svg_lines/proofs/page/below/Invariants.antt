use Rattle.std.proofs.Common.{◌≡◌, ◌+◌, ◌*◌, ◌≤◌, ◌^◌, map, drop}
use Rattle.chart_cells.specs.Charts.{panel_shown}
use Rattle.svg_texts.specs.SvgText.{below}
use Rattle.svg_lines.proofs.page.below.Given as goal

abbrev pub invariant-loop-panel : goal.invariant-loop-panel
invariant-loop-panel l = record {
  position : below l.y (map panel_shown (drop l.panel-index l.panels)) ≡ below 40 (map panel_shown l.panels);
  small : l.y ≤ 40 + l.panel-index * 2 ^ 72;
}
