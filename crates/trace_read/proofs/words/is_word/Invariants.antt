use Rattle.std.proofs.Common.{◌≡◌, drop}
use Rattle.std.specs.Prelude.{bytes_eq}
use Rattle.trace_read.proofs.words.is_word.Given as goal

-- the rest answers as the whole
abbrev pub invariant-loop-i : goal.invariant-loop-i
invariant-loop-i l = bytes_eq (drop l.i l.word) (drop l.i l.known) ≡ bytes_eq l.word l.known
