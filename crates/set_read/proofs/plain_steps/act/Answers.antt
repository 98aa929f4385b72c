use Rattle.std.proofs.Common.{◌≡◌, ◌∷◌, ◌-◌, length, take, drop, get_or, refl, sym, ap, ◌∙◌, arith}
use Rattle.json.specs.Lex.{after_comma, between, lex}
use Rattle.set_read.specs.Document.{act_form}
use Rattle.set_read.specs.Names.{names_seen}
use Rattle.set_read.specs.inside.Tokens.{argument_depth}
use Rattle.set_read.proofs.FirstLaws.{first_split}
use Rattle.set_read.proofs.PlainLaws.{argument_ends, bare_ends}
use Rattle.set_read.proofs.plain_steps.act.Goals as goal

pub returns-in-Some-clause-says : goal.returns-in-Some-clause-says
returns-in-Some-clause-says c =
    let xs = c.after_blanks.result.now in
    let quote : get_or xs 0 0 ≡ 34 = omega arith in
    let split = first_split 34 xs c.in-34.len_at_least quote in
    let (word, first, is) = c.in-Some.ensures.word in
    bare_ends argument_depth (act_form (names_seen c.args.names.now)) after_comma refl word c.args.bytes.now
    (34 ∷ take (length xs - 1) (drop 1 xs)) c.in-Some.rest.now c.in_ok-after.field-0.now c.in-Some.act
    (ap (lex between) (sym split) ∙ c.after_blanks.ensures.lexed) first is c.in_ok-after.ensures.lexed

pub returns-clause-says : goal.returns-clause-says
returns-clause-says c =
    let xs = c.after_blanks.result.now in
    let quote : get_or xs 0 0 ≡ 34 = omega arith in
    let split = first_split 34 xs c.in-34.len_at_least quote in
    argument_ends argument_depth (act_form (names_seen c.args.names.now)) after_comma refl c.in_ok-word.word.now c.args.bytes.now
    (34 ∷ take (length xs - 1) (drop 1 xs)) c.in_ok-word.rest.now
    c.in_ok-after-2.field-0.now c.in_ok-act.rest.now c.in_ok-after-3.field-0.now c.in_ok-act.act
    (ap (lex between) (sym split) ∙ c.after_blanks.ensures.lexed)
    c.in_ok-word.ensures.lexed c.in_ok-after-2.ensures.lexed c.in_ok-act.ensures.says c.in_ok-after-3.ensures.lexed
    c.in_ok-after-3.ensures.ends
