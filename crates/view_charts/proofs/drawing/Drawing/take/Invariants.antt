use Rattle.std.proofs.Common.{◌≡◌, ◌+◌, ◌≤◌, drop, length}
use Rattle.rt_model.specs.Histories.{past_from}
use Rattle.rt_model.specs.Past.{Past}
use Rattle.chart_texts.specs.declared.window.Axis.{Axis}
use Rattle.chart_texts.specs.declared.window.Window.{Window}
use Rattle.view_charts.specs.inside.Drawings.{IsDrawn, group_of, spare}
use Rattle.view_charts.proofs.drawing.Drawing.take.Given as goal

-- the steps of the entries so far were taken
abbrev pub invariant-loop-i : goal.invariant-loop-i
invariant-loop-i l = record {
  same_group : group_of l.self ≡ group_of l.initial.self;
  room : length l.entries ≤ spare l.self + l.i;
  drawn : (axis : Axis) (w : Window) (past : Past) → IsDrawn axis w past l.initial.self
      → (now : Past) × IsDrawn axis w now l.self × (past_from (group_of l.initial.self) now (drop l.i l.entries) ≡ past_from (group_of l.initial.self) past l.entries);
}
