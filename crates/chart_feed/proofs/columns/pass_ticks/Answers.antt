use Rattle.std.proofs.Common.{◌≡◌, ◌<◌, ◌-◌, true, min, arith}
use Rattle.std.proofs.lemmas.Bool.Decides.{nat_tests}
use Rattle.chart_feed.specs.WindowStrips.{is_in}
use Rattle.chart_feed.proofs.Stepping.{skipped-rows}
use Rattle.chart_feed.proofs.columns.pass_ticks.Goals as goal

pub loop-init : goal.loop-init
loop-init c = record {
  low = omega (arith, c.max-counter.ensures);
  high = omega (arith, c.max-counter.ensures);
  over = λ past now later has. skipped-rows c.args.afresh.now c.args.window past now c.args.from c.max-counter.result c.args.rows.now (omega (arith, c.max-counter.ensures)) has;
}

pub pass_tick-requires : goal.pass_tick-requires
pass_tick-requires c = (c.requires.0, c.args.window, c.requires.1, c.loop.counter, c.loop.invariant.over c.requires.0 c.requires.1 c.requires.2 c.requires.3)

pub loop-preserved : goal.loop-preserved
loop-preserved c = record {
  low = omega (arith, c.loop.invariant.low);
  high = omega (arith, c.loop-test.true, c.min-end.ensures);
  over = λ past now later has.
      let next : now < c.loop.counter = omega (arith, later, c.loop.invariant.low) in
      let inside : is_in c.args.window c.loop.counter ≡ true = grind (arith, nat_tests, c.loop.invariant.low, c.loop-test.true, c.min-end.ensures) in
      c.in_ok-pass_tick.ensures past c.args.window now c.loop.counter (c.loop.invariant.over past now later has) next inside;
}

pub returns : goal.returns
returns c = λ past now later low has.
    let same : min c.loop.counter c.args.window.to - c.args.window.from ≡ min c.args.to c.args.window.to - c.args.window.from =
    omega (arith, low, c.loop-test.false, c.min-end.ensures, c.loop.invariant.low, c.loop.invariant.high) in
    skipped-rows c.args.afresh.now c.args.window past now c.loop.counter c.args.to c.loop.rows same (c.loop.invariant.over past now later has)
