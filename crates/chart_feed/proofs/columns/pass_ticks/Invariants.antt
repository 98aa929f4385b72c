use Rattle.std.proofs.Common.{◌<◌, ◌≤◌, ℕ, max, min}
use Rattle.rt_model.specs.Past.{Past}
use Rattle.chart_feed.specs.inside.Stands.{HasRows}
use Rattle.chart_rows.specs.Strips.{blank}
use Rattle.chart_feed.specs.WindowStrips.{closed_below}
use Rattle.chart_feed.proofs.columns.pass_ticks.Given as goal

-- the ticks so far are over
abbrev pub invariant-loop : goal.invariant-loop
invariant-loop l = record {
  low : max l.from l.fn.window.from ≤ l.counter;
  high : l.counter ≤ max (max l.from l.fn.window.from) (min l.to l.fn.window.to);
  over : (past : Past) (now : ℕ) → now < l.from → HasRows l.afresh past now (closed_below l.fn.window past l.from) blank l.fn.rows → HasRows l.afresh past now (closed_below l.fn.window past l.counter) blank l.rows;
}
