use Rattle.std.proofs.Common.{◌≡◌, map}
use Rattle.trace_tools.specs.BusCounters.{counter}
use Rattle.trace_tools.specs.Counters.{counter_of}
use Rattle.trace_tools.proofs.bus.Bus.open.Given as goal

abbrev pub invariant-loop-tool : goal.invariant-loop-tool
invariant-loop-tool g l = map (counter g.T.TraceTool.tool) l.counters.items ≡ map (λ t. counter_of (g.T.TraceTool.tool t)) l.yielded
