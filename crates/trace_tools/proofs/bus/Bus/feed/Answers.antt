use Rattle.std.proofs.Common.{◌∙◌, ◌<◌, ◌≤◌, length, arith}
use Rattle.trace_tools.specs.BusCounters.{counter, counters}
use Rattle.trace_tools.specs.Counters.{counter_after}
use Rattle.trace_tools.proofs.FeedLaws.{change-all, change-next, changed-within, mapped-past}
use Rattle.trace_tools.proofs.bus.Bus.feed.Goals as goal

pub loop-i-preserved : goal.loop-i-preserved
loop-i-preserved g c =
    let within : c.loop-i.i < length c.loop-i.self.counters.items = changed-within (counter g.T.TraceTool.tool) (counter_after c.args.e.now) c.loop-i.self.counters.items c.args.self.now.counters.items c.loop-i.i c.len-i-end.result (omega (arith, c.len-i-end.ensures, c.args.self.now.counters.ok.0)) c.loop-i-test.true c.loop-i.invariant in
    change-next (counter g.T.TraceTool.tool) (counter_after c.args.e.now) (counters g.T.TraceTool.tool c.args.self.now) c.loop-i.self.counters.items c.loop-i.i c.index_mut.result.now c.feed.new.self within c.index_mut.ensures.value c.feed.ensures c.loop-i.invariant

pub returns : goal.returns
returns g c =
    let past : length (counters g.T.TraceTool.tool c.args.self.now) ≤ c.loop-i.i = mapped-past (counter g.T.TraceTool.tool) c.args.self.now.counters.items c.loop-i.i c.len-i-end.result (omega (arith, c.len-i-end.ensures, c.args.self.now.counters.ok.0)) c.loop-i-test.false in
    c.loop-i.invariant ∙ change-all (counter_after c.args.e.now) c.loop-i.i (counters g.T.TraceTool.tool c.args.self.now) past
