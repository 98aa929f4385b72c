use Rattle.std.proofs.Common.{◌≡◌}
use Rattle.trace_tools.specs.BusCounters.{counters}
use Rattle.trace_tools.specs.Counters.{counter_after}
use Rattle.trace_tools.proofs.FeedLaws.{changed}
use Rattle.trace_tools.proofs.bus.Bus.feed.Given as goal

abbrev pub invariant-loop-i : goal.invariant-loop-i
invariant-loop-i g l = counters g.T.TraceTool.tool l.self ≡ changed (counter_after l.e) l.i (counters g.T.TraceTool.tool l.fn.self)
