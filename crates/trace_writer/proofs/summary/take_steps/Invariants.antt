use Rattle.std.proofs.Common.{◌≡◌}
use Rattle.rt_plays.specs.Groups.{group_of, past}
use Rattle.trace_tools.specs.BusCounters.{counters}
use Rattle.trace_writer.specs.Replays.{ahead}
use Rattle.trace_writer.proofs.Stepping.{IsPlaying, counters_ahead}
use Rattle.trace_writer.proofs.summary.take_steps.Given as goal

-- the group plays, and the bus was shown the entries so far
abbrev pub invariant-loop-step : goal.invariant-loop-step
invariant-loop-step g l = record {
  playing : IsPlaying l.initial.engine l.engine l.left l.no (ahead (group_of l.initial.engine) l.initial.left (past l.initial.engine));
  shown : counters_ahead (group_of l.initial.engine) l.no l.left (past l.engine) (counters g.T.TraceTool.tool l.bus)
      ≡ counters_ahead (group_of l.initial.engine) 0 l.initial.left (past l.initial.engine) (counters g.T.TraceTool.tool l.initial.bus);
}

abbrev pub decreases-loop-step : goal.decreases-loop-step
decreases-loop-step g l = l.engine.spare
