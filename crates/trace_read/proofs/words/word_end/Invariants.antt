use Rattle.std.proofs.Common.{◌≡◌, ◌+◌, drop}
use Rattle.trace_read.specs.Reading.{word_length}
use Rattle.trace_read.proofs.words.word_end.Given as goal

-- where the word ends in what is left
abbrev pub invariant-loop-i : goal.invariant-loop-i
invariant-loop-i l = l.i + word_length (drop l.i l.text) ≡ word_length l.text
