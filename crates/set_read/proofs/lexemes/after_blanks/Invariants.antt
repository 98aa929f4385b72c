use Rattle.std.proofs.Common.{◌≡◌, ◌≤◌, true, length}
use Rattle.json.specs.Lex.{between, lex}
use Rattle.json.specs.Word.{ends_word}
use Rattle.set_read.proofs.lexemes.after_blanks.Given as goal

abbrev pub invariant-loop-left : goal.invariant-loop-left
invariant-loop-left l = record {
  lexed : lex between l.left ≡ lex between l.initial.bytes;
  ends : ends_word l.left ≡ true → ends_word l.initial.bytes ≡ true;
  shorter : length l.left ≤ length l.initial.bytes;
}

abbrev pub decreases-loop-left : goal.decreases-loop-left
decreases-loop-left l = length l.left
