use Rattle.std.proofs.Common.{length}
use Rattle.trace_read.specs.Lines.{lines_of}
use Rattle.trace_read.specs.Seen.{BeginsLines}
use Rattle.trace_read.proofs.read.read_lines.Given as goal

-- the bytes begin with the lines so far, and then comes what is left
abbrev pub invariant-loop-text : goal.invariant-loop-text
invariant-loop-text l = BeginsLines l.k l.bytes (lines_of l.lines.items) l.left

abbrev pub decreases-loop-text : goal.decreases-loop-text
decreases-loop-text l = length l.left
