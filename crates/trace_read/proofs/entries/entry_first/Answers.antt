use Rattle.std.proofs.Common.{◌≡◌, Option, None, Some, true, ap, sym, ◌∙◌}
use Rattle.trace_lines.specs.Lines.{entry_line}
use Rattle.trace_read.specs.Reading.{begins_with_digit}
use Rattle.trace_read.proofs.EntryLines.{digit-shorter, entry-digit, entry-said}
use Rattle.trace_read.proofs.ReadLaws.{behind_is}
use Rattle.trace_read.proofs.entries.entry_first.Goals as goal

pub returns-then-not-begins_with_digit-clause-entry : goal.returns-then-not-begins_with_digit-clause-entry
returns-then-not-begins_with_digit-clause-entry c = λ i e links more known is.
    let yes : c.begins_with_digit.result ≡ true = c.begins_with_digit.ensures ∙ ap begins_with_digit is ∙ entry-digit c.args.k.now i e links more known in
    cc

none-some : {A : Type 0} (o : Option A) (x : A) → o ≡ None → o ≡ Some x → ⊥
none-some o x none some = cc

some-same : {A : Type 0} (o : Option A) (x y : A) → o ≡ Some x → o ≡ Some y → x ≡ y
some-same o x y e f = cc

pub returns-in_err-entry-clause-entry : goal.returns-in_err-entry-clause-entry
returns-in_err-entry-clause-entry c = λ i e links more known is.
    let some : c.entry_said.result ≡ Some e = c.entry_said.ensures ∙ entry-said c.args.k.now i e links c.args.text.now more c.requires known is in
    absurd (none-some c.entry_said.result e c.in_err-entry.was some)

pub returns-clause-entry : goal.returns-clause-entry
returns-clause-entry c = λ i e links more known is.
    let some : c.entry_said.result ≡ Some e = c.entry_said.ensures ∙ entry-said c.args.k.now i e links c.args.text.now more c.requires known is in
    let same : c.in_ok-entry.entry ≡ e = some-same c.entry_said.result c.in_ok-entry.entry e c.in_ok-entry.was some in
    let rest : c.behind_line.result.now ≡ more = c.behind_line.ensures ∙ behind_is c.args.k.now c.args.text.now more (entry_line i e links) c.requires known is in
    λ j. Some (same j, rest j)

pub returns-clause-shorter : goal.returns-clause-shorter
returns-clause-shorter c =
    digit-shorter c.args.text.now c.behind_line.result.now (sym c.begins_with_digit.ensures ∙ c.if-not-begins_with_digit.false) c.behind_line.ensures
