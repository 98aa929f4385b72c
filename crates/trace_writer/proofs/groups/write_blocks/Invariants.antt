use Rattle.std.proofs.Common.{◌++◌, drop, map}
use Rattle.block_counts.specs.SeenWords.{tallies_of}
use Rattle.trace_lines.specs.Known.{known_in}
use Rattle.trace_text.specs.Groups.{request_line}
use Rattle.trace_writer.proofs.CameLaws.{IsComing}
use Rattle.trace_text.proofs.LineLaws.{texts}
use Rattle.trace_writer.proofs.groups.write_blocks.Given as goal

-- the lines of the requests so far came, but for those that are gathered
abbrev pub invariant-loop-seen : goal.invariant-loop-seen
invariant-loop-seen g l =
    IsComing g.K.Sink.held g.K.Sink.faults l.initial.out l.out
    (texts (known_in l.format) (map request_line (tallies_of l.requests))) (l.lines.items ++ texts (known_in l.format) (map request_line (tallies_of (drop l.seen-index l.requests))))
