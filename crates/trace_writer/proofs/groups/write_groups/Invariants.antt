use Rattle.std.proofs.Common.{◌≡◌, drop}
use Rattle.set_plays.specs.GroupSteps.{told, told_from}
use Rattle.trace_lines.specs.Known.{known_in}
use Rattle.trace_tools.specs.BusCounters.{counters}
use Rattle.trace_tools.specs.Counters.{counters_after}
use Rattle.trace_text.specs.CountLines.{shown_from}
use Rattle.trace_text.specs.TraceText.{lines_from}
use Rattle.trace_writer.proofs.CameLaws.{IsComing}
use Rattle.trace_text.proofs.LineLaws.{texts}
use Rattle.trace_writer.proofs.groups.write_groups.Given as goal

-- the lines of the groups so far came, and the bus was shown their entries
abbrev pub invariant-loop-i : goal.invariant-loop-i
invariant-loop-i g l =
    IsComing g.K.Sink.held g.K.Sink.faults l.initial.out l.out
    (texts (known_in l.format) (lines_from l.setup 0 (told l.setup l.groups))) (texts (known_in l.format) (lines_from l.setup l.i (told_from l.setup l.i (drop l.i l.groups))))
    × (counters_after (shown_from l.setup l.i (told_from l.setup l.i (drop l.i l.groups))) (counters g.T.TraceTool.tool l.bus)
    ≡ counters_after (shown_from l.setup 0 (told l.setup l.groups)) (counters g.T.TraceTool.tool l.initial.bus))
