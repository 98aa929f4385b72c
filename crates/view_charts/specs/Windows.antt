-- The windows in which a chart can be drawn.
use Rattle.std.specs.Prelude.{◌-◌, ◌<◌, ◌≤◌, Option, None, Some, ⊤}
use Rattle.rt_base.specs.declared.TheConstants.{TICK_END}
use Rattle.chart_texts.specs.declared.window.Window.{Window}

-- at least one column and at most 400, up to the last tick that there can be
pub record IsShown (w : Window) : Type 0 where
  pub some : w.from < w.to
  pub low : w.to ≤ TICK_END
  pub few : w.to - w.from ≤ 400

abbrev pub Fits : Option Window → Type 0
Fits None = ⊤
Fits (Some w) = IsShown w
