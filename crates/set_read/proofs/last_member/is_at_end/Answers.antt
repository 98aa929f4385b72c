use Rattle.std.proofs.Common.{◌≤◌, length, sym, ap, ◌∙◌, arith}
use Rattle.std.proofs.lemmas.List.{drop_all}
use Rattle.json.specs.Lex.{between, lex}
use Rattle.set_read.proofs.PlainLaws.{end_of_text}
use Rattle.set_read.proofs.last_member.is_at_end.Goals as goal

pub returns-in-Some : goal.returns-in-Some
returns-in-Some c over =
    let left = c.after_blanks.result.now in
    let short : length left ≤ 0 = grind arith in
    end_of_text c.args.bytes.now c.in-Some.rest.now c.in-Some.ensures.lexed
    (sym c.after_blanks.ensures.lexed ∙ ap (lex between) (drop_all 0 left short))
