use Rattle.std.proofs.Common.{◌≡◌, ◌++◌, map}
use Rattle.chart_cells.specs.Charts.{panel_shown}
use Rattle.chart_texts.specs.Charts.{pasts_from}
use Rattle.trace_text.specs.Groups.{histories}
use Rattle.view_charts.specs.Texts.{panels_in}
use Rattle.view_charts.proofs.GroupPasts.{pasts_behind}
use Rattle.view_charts.proofs.panels.panels_of.Given as goal

-- those of the groups so far, and of those that are left
abbrev pub invariant-loop-i : goal.invariant-loop-i
invariant-loop-i l = map panel_shown l.panels.items ++ panels_in l.axis l.window (pasts_behind l.setup l.groups l.i) ≡ panels_in l.axis l.window (pasts_from l.setup 0 (histories l.groups))
