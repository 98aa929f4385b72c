use Rattle.std.proofs.Common.{◌≡◌, length}
use Rattle.trace_read.specs.Reading.{digits_after}
use Rattle.trace_read.proofs.words.digits_at.Given as goal

-- the digits that are left, after the number so far, say what the text says
abbrev pub invariant-loop-left : goal.invariant-loop-left
invariant-loop-left l = digits_after l.n l.left ≡ digits_after 0 l.fn.text

abbrev pub decreases-loop-left : goal.decreases-loop-left
decreases-loop-left l = length l.left
