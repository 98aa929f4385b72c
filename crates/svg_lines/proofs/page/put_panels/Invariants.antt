use Rattle.std.proofs.Common.{◌≡◌, ◌+◌, ◌*◌, ◌++◌, ◌≤◌, ◌^◌, map, drop}
use Rattle.chart_cells.specs.Charts.{panel_shown}
use Rattle.svg_texts.specs.SvgText.{panel_texts}
use Rattle.svg_lines.proofs.page.put_panels.Given as goal

-- what was written, and then the rest of the groups, are all the groups
abbrev pub invariant-loop-panel : goal.invariant-loop-panel
invariant-loop-panel l =
    let texts = panel_texts l.set l.view.axis l.view.window l.view.step l.view.edge in
    record {
      text : l.out.items ++ texts l.y (map panel_shown (drop l.panel-index l.panels)) ≡ l.fn.out.items ++ texts 40 (map panel_shown l.panels);
      small : l.y ≤ 40 + l.panel-index * 2 ^ 72;
    }
