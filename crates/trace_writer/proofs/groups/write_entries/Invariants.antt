use Rattle.std.proofs.Common.{◌≡◌, ◌++◌}
use Rattle.rt_plays.specs.Groups.{group_of, past}
use Rattle.trace_lines.specs.Known.{known_in}
use Rattle.trace_tools.specs.BusCounters.{counters}
use Rattle.trace_writer.specs.Replays.{ShowsLinks, ahead}
use Rattle.trace_writer.proofs.CameLaws.{IsComing}
use Rattle.trace_writer.proofs.Stepping.{IsPlaying, lines_ahead, counters_ahead}
use Rattle.trace_writer.proofs.groups.write_entries.Given as goal

-- the group plays, its links are known, the lines of the entries so far came but for those that are gathered, and the bus was shown them
abbrev pub invariant-loop-step : goal.invariant-loop-step
invariant-loop-step g l = record {
  playing : IsPlaying l.initial.replay.engine l.replay.engine l.left l.no (ahead (group_of l.initial.replay.engine) l.initial.left (past l.initial.replay.engine));
  shows : ShowsLinks l.replay.engine l.replay.cpus.items l.replay.links.items;
  coming : IsComing g.K.Sink.held g.K.Sink.faults l.initial.out l.out
      (lines_ahead (known_in l.format) (group_of l.initial.replay.engine) 0 l.initial.left (past l.initial.replay.engine))
      (l.lines.items ++ lines_ahead (known_in l.format) (group_of l.initial.replay.engine) l.no l.left (past l.replay.engine));
  shown : counters_ahead (group_of l.initial.replay.engine) l.no l.left (past l.replay.engine) (counters g.T.TraceTool.tool l.bus)
      ≡ counters_ahead (group_of l.initial.replay.engine) 0 l.initial.left (past l.initial.replay.engine) (counters g.T.TraceTool.tool l.initial.bus);
}

abbrev pub decreases-loop-step : goal.decreases-loop-step
decreases-loop-step g l = l.replay.engine.spare
