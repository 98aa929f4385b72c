use Rattle.std.proofs.Common.{◌≡◌, ◌<◌, ◌-◌, length, take, drop, get_or, ap, sym, ◌∙◌, arith}
use Rattle.std.proofs.lemmas.Option.{IfSome_then}
use Rattle.json.specs.Lex.{between, lex}
use Rattle.set_read.proofs.FirstLaws.{digits_first, first_split, zero_first}
use Rattle.set_read.proofs.lexemes.number.Goals as goal

pub returns-in-48-clause-lexed : goal.returns-in-48-clause-lexed
returns-in-48-clause-lexed c ended =
    let xs = c.after_blanks-text.result.now in
    let zero : get_or xs 0 0 ≡ 48 = omega arith in
    let split = first_split 48 xs c.in-48.len_at_least zero in
    let first = zero_first (take (length xs - 1) (drop 1 xs)) ended in
    (first.0, sym c.after_blanks-text.ensures.lexed ∙ ap (lex between) split ∙ first.1, first.2)

pub returns-in-49-to-57-clause-lexed : goal.returns-in-49-to-57-clause-lexed
returns-in-49-to-57-clause-lexed c =
    let xs = c.after_blanks-text.result.now in
    let low : 48 < get_or xs 0 0 = omega arith in
    let high : get_or xs 0 0 < 58 = omega arith in
    IfSome_then c.digits.result c.digits.ensures
    (λ x (ds, is, all, value, fits) ended.
    let first = digits_first xs x.1.now ds x.0 is all value fits low high ended in
    (first.0, sym c.after_blanks-text.ensures.lexed ∙ first.1, first.2))
