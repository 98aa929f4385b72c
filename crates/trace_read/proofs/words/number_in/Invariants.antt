use Rattle.std.proofs.Common.{◌≡◌, drop}
use Rattle.trace_read.specs.Reading.{number_after, number_in}
use Rattle.trace_read.proofs.words.number_in.Given as goal

-- the digits that are left, after the number so far, say what the word says
abbrev pub invariant-loop-digit : goal.invariant-loop-digit
invariant-loop-digit l = number_after l.n (drop l.digit-index l.word) ≡ number_in l.word
