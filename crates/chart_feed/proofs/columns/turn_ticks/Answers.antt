use Rattle.std.proofs.Common.{◌<◌, ◌≤◌, ◌+◌, arith}
use Rattle.rank_afresh.specs.Standing.{group_of}
use Rattle.chart_feed.proofs.Stepping.{turned-later, turned-same}
use Rattle.chart_feed.proofs.columns.turn_ticks.Goals as goal

pub returns-in_ok-pass_ticks : goal.returns-in_ok-pass_ticks
returns-in_ok-pass_ticks c = λ past has.
    let after : c.args.now < c.args.now + 1 = omega arith in
    let next : c.args.now + 1 ≤ c.args.tick = omega (arith, c.if-now-tick.true) in
    let over = c.in_ok-pass_ticks.ensures past c.args.now after next (c.in_ok-end_tick.ensures past has) in
    record {
      at = has.at;
      clock_is = has.clock_is;
      rows_are = turned-later (group_of c.args.afresh.now) c.args.window past c.pass_ticks.new.rows c.args.tick c.args.now has.clock_is c.if-now-tick.true over.rows_are;
    }

pub returns-else-now-tick : goal.returns-else-now-tick
returns-else-now-tick c = λ past has. record {
  at = has.at;
  clock_is = has.clock_is;
  rows_are = turned-same (group_of c.args.afresh.now) c.args.window past c.args.rows.now c.args.tick c.args.now has.clock_is c.if-now-tick.false has.rows_are;
}
