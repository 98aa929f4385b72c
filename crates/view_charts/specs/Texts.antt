-- The text of a chart of a set and its histories, by the form in which it is drawn.
use Rattle.std.specs.Prelude.{ℕ, List, map, Option, None, Some}
use Rattle.rt_task.specs.declared.Parts.{Parts}
use Rattle.rt_rules.specs.declared.history.Entry.{Entry}
use Rattle.rt_model.specs.Group.{Group}
use Rattle.rt_model.specs.Past.{Past}
use Rattle.chart_texts.specs.declared.window.Axis.{Axis}
use Rattle.chart_texts.specs.declared.window.Window.{Window}
use Rattle.chart_texts.specs.Charts.{Panel, panel_of}
use Rattle.chart_texts.specs.Windows.{columns_in}
use Rattle.chart_texts.specs.ChartText.{chart_text, whole_text}
use Rattle.svg_texts.specs.SvgText.{svg_text, whole_svg}
use Rattle.view_charts.specs.declared.texts.Form.{Form}
use Rattle.view_charts.specs.declared.texts.Form.TheVariants.{Text, Svg}

-- in a window
abbrev pub drawn_in : Form → Axis → Window → Parts → List (List Entry) → List ℕ
drawn_in Text axis w p hs = chart_text axis w p hs
drawn_in Svg axis w p hs = svg_text axis w p hs

-- in the window that is asked for, or in the one that is taken where none is
abbrev pub drawn : Form → Axis → Option Window → Parts → List (List Entry) → List ℕ
drawn form axis (Some w) p hs = drawn_in form axis w p hs
drawn Text axis None p hs = whole_text axis p hs
drawn Svg axis None p hs = whole_svg axis p hs

-- what a chart shows of a group, and of some
abbrev pub panel_in : Axis → Window → Group → Past → Panel
panel_in axis w g past = panel_of g (columns_in axis w past) past

abbrev pub panels_in : Axis → Window → List (Group × Past) → List Panel
panels_in axis w gs = map (λ (x : Group × Past). panel_in axis w x.0 x.1) gs
