use Rattle.std.proofs.Common.{◌-◌, length, take, drop, sym, ap, ◌∙◌}
use Rattle.json.specs.Lex.{between, lex}
use Rattle.json.specs.Word.{ends_word}
use Rattle.set_read.proofs.FirstLaws.{first_split, mark_ends, mark_first}
use Rattle.set_read.proofs.lexemes.after.Goals as goal

pub returns-in-len1-up-clause-lexed : goal.returns-in-len1-up-clause-lexed
returns-in-len1-up-clause-lexed c =
    let xs = c.after_blanks.result.now in
    let split = first_split c.args.mark xs c.in-len1-up.len_at_least c.if-first-mark.true in
    sym c.after_blanks.ensures.lexed ∙ ap (lex between) split ∙ mark_first c.args.mark (take (length xs - 1) (drop 1 xs)) c.requires

pub returns-in-len1-up-clause-ends : goal.returns-in-len1-up-clause-ends
returns-in-len1-up-clause-ends c =
    let xs = c.after_blanks.result.now in
    let split = first_split c.args.mark xs c.in-len1-up.len_at_least c.if-first-mark.true in
    c.after_blanks.ensures.ends (ap ends_word split ∙ mark_ends c.args.mark (take (length xs - 1) (drop 1 xs)) c.requires)
