use Rattle.std.proofs.Common.{drop, map}
use Rattle.trace_lines.specs.Known.{Known}
use Rattle.trace_tools.specs.BusCounters.{counters}
use Rattle.trace_tools.specs.Counters.{counter_line}
use Rattle.trace_writer.proofs.CameLaws.{IsComing}
use Rattle.trace_text.proofs.LineLaws.{texts}
use Rattle.trace_writer.proofs.counts.write_counts.Given as goal

-- the lines of the tools so far came
abbrev pub invariant-loop-i : goal.invariant-loop-i
invariant-loop-i g l =
    (k : Known) → IsComing g.K.Sink.held g.K.Sink.faults l.initial.out l.out
    (texts k (map counter_line (counters g.T.TraceTool.tool l.bus))) (texts k (map counter_line (drop l.i (counters g.T.TraceTool.tool l.bus))))
