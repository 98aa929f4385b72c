use Rattle.std.proofs.Common.{◌≡◌, ◌∷◌, ◌-◌, length, take, drop, get_or, sym, ap, ◌∙◌, arith}
use Rattle.json.specs.Lex.{between, lex}
use Rattle.set_read.specs.Document.{act_form}
use Rattle.set_read.specs.Names.{names_seen}
use Rattle.set_read.specs.inside.Tokens.{argument_depth}
use Rattle.set_read.proofs.FirstLaws.{first_split}
use Rattle.set_read.proofs.PlainLaws.{name_argument, number_argument}
use Rattle.set_read.proofs.plain_steps.act_with.Goals as goal

pub returns-in_ok-act-in-34-clause-says : goal.returns-in_ok-act-in-34-clause-says
returns-in_ok-act-in-34-clause-says c =
    let xs = c.after_blanks.result.now in
    let quote : get_or xs 0 0 ≡ 34 = omega arith in
    let split = first_split 34 xs c.in-34.len_at_least quote in
    let name = c.in_ok-name-in-34.name.now in
    let rest = c.in_ok-name-in-34.rest.now in
    let same : c.in_ok-ok-in-34.field-0.now ≡ name = grind arith in
    name_argument argument_depth (act_form (names_seen c.args.names.now) c.args.word.now) name c.args.bytes.now
    (34 ∷ take (length xs - 1) (drop 1 xs)) rest c.in_ok-act-in-34.act
    (ap (lex between) (sym split) ∙ c.after_blanks.ensures.lexed) c.in_ok-name-in-34.ensures.lexed (rw (← same) c.in_ok-act-in-34.ensures)

pub returns-in_ok-act-in_default-clause-says : goal.returns-in_ok-act-in_default-clause-says
returns-in_ok-act-in_default-clause-says c =
    let names = names_seen c.args.names.now in
    number_argument argument_depth (act_form names c.args.word.now) c.args.bytes.now c.after_blanks.result.now
    c.in_ok-n-in_default.rest.now c.in_ok-n-in_default.n
    c.in_ok-act-in_default.act c.after_blanks.ensures.lexed c.in_ok-n-in_default.ensures.lexed (c.in_ok-act-in_default.ensures names)
