use Rattle.std.proofs.Common.{take}
use Rattle.block_counts.specs.SeenWords.{tallies_of}
use Rattle.trace_lines.specs.Known.{known_of}
use Rattle.trace_check.specs.inside.RequestLines.{request_lines}
use Rattle.trace_check.proofs.TextPositions.{StandFirst}
use Rattle.trace_check.proofs.requests.stood_first.Given as goal

-- the lines of the requests so far stand first
abbrev pub invariant-loop-k : goal.invariant-loop-k
invariant-loop-k l = StandFirst (known_of l.version l.setup) l.text (take l.k (request_lines (tallies_of l.requests))) l.size
