use Rattle.std.proofs.Common.{◌≡◌, ◌+◌, drop}
use Rattle.trace_read.specs.Reading.{cut_length}
use Rattle.trace_read.proofs.words.cut_length.Given as goal

-- where the byte stands in what is left
abbrev pub invariant-loop-i : goal.invariant-loop-i
invariant-loop-i l = l.i + cut_length l.at (drop l.i l.text) ≡ cut_length l.at l.text
