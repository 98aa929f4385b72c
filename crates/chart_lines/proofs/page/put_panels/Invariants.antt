use Rattle.std.proofs.Common.{◌≡◌, ◌++◌, map, drop, flat_map}
use Rattle.chart_texts.specs.ChartText as spec
use Rattle.chart_cells.specs.Charts.{panel_shown}
use Rattle.chart_lines.proofs.page.put_panels.Given as goal

-- what was written, and then the rest of the groups, are all the groups
abbrev pub invariant-loop-panel : goal.invariant-loop-panel
invariant-loop-panel l =
    let text = spec.panel_text l.parts l.axis l.width in
    l.out.items ++ flat_map text (map panel_shown (drop l.panel-index l.panels)) ≡ l.fn.out.items ++ flat_map text (map panel_shown l.panels)
