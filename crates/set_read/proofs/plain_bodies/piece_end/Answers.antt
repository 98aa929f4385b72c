use Rattle.std.proofs.Common.{◌≡◌, ◌∷◌, ◌-◌, length, take, drop, get_or, refl, sym, ap, ◌∙◌, arith}
use Rattle.std.specs.Prelude.{option_map}
use Rattle.json.specs.Lex.{fresh, between, lex}
use Rattle.rt_task.specs.declared.draft.Piece.TheVariants.{Once}
use Rattle.set_read.specs.Names.{names_seen}
use Rattle.set_read.specs.inside.Tokens.{piece_after, piece_argument_depth}
use Rattle.set_read.proofs.FirstLaws.{first_split}
use Rattle.set_read.proofs.PlainLaws.{argument_ends, bare_ends}
use Rattle.set_read.proofs.plain_bodies.piece_end.Goals as goal

pub returns-in-Some-clause-says : goal.returns-in-Some-clause-says
returns-in-Some-clause-says c =
    let xs = c.after_blanks.result.now in
    let quote : get_or xs 0 0 ≡ 34 = omega arith in
    let split = first_split 34 xs c.in-34.len_at_least quote in
    let (word, first, is) = c.in-Some.ensures.word in
    bare_ends piece_argument_depth (piece_after (names_seen c.args.names.now)) fresh refl word c.args.bytes.now
    (34 ∷ take (length xs - 1) (drop 1 xs)) c.in-Some.rest.now c.in_ok-after.field-0.now (Once c.in-Some.op)
    (ap (lex between) (sym split) ∙ c.after_blanks.ensures.lexed) first (ap (option_map Once) is) c.in_ok-after.ensures.lexed

pub returns-clause-says : goal.returns-clause-says
returns-clause-says c =
    let xs = c.after_blanks.result.now in
    let quote : get_or xs 0 0 ≡ 34 = omega arith in
    let split = first_split 34 xs c.in-34.len_at_least quote in
    argument_ends piece_argument_depth (piece_after (names_seen c.args.names.now)) fresh refl c.in_ok-word.word.now c.args.bytes.now
    (34 ∷ take (length xs - 1) (drop 1 xs)) c.in_ok-word.rest.now
    c.in_ok-after-2.field-0.now c.in_ok-piece.rest.now c.in_ok-after-3.field-0.now c.in_ok-piece.piece
    (ap (lex between) (sym split) ∙ c.after_blanks.ensures.lexed)
    c.in_ok-word.ensures.lexed c.in_ok-after-2.ensures.lexed c.in_ok-piece.ensures.says c.in_ok-after-3.ensures.lexed
    c.in_ok-after-3.ensures.ends
