-- A line begins with a digit where it is that of an entry, and no other line does.
use Rattle.std.proofs.Common.{◌≡◌, ℕ, true, false, List, ◌++◌, refl, ap, ◌∙◌}
use Rattle.trace_lines.specs.Grammar.{line_text, line_words}
use Rattle.trace_lines.specs.Known.{Known}
use Rattle.trace_lines.specs.Lines.{Line, group_line, entry_line, block_line, end_line, count_line}
use Rattle.trace_read.specs.Reading.{begins_with_digit}
use Rattle.trace_read.proofs.EntryLines.{entry-digit}
use Rattle.trace_check.specs.inside.GroupLines.{IsOtherLine, NoEntryBegins}

pub other-letter : (k : Known) (l : Line) (more : List ℕ) → IsOtherLine l → begins_with_digit (line_text k l ++ more) ≡ false
unfolding line_text line_words
other-letter k (group_line n links) more other = refl
other-letter k (entry_line i e links) more other = absurd other
other-letter k (block_line i t s n m b) more other = refl
other-letter k end_line more other = refl
other-letter k (count_line name totals) more other = refl

-- a text that begins with no digit begins with no line of an entry
pub no-entry : (k : Known) (text : List ℕ) → begins_with_digit text ≡ false → NoEntryBegins k text
no-entry k text none (group_line n links) more known is = tt
no-entry k text none (entry_line i e links) more known is =
    let yes : begins_with_digit text ≡ true = ap begins_with_digit is ∙ entry-digit k i e links more known in
    let no : begins_with_digit text ≡ false = none in
    cc
no-entry k text none (block_line i t s n m b) more known is = tt
no-entry k text none end_line more known is = tt
no-entry k text none (count_line name totals) more known is = tt
