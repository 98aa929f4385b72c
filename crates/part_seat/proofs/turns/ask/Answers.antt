use Rattle.std.proofs.Common.{refl, ap, ◌∙◌}
use Rattle.part_seat.proofs.TurnLaws.{about-is, has-given, is-found}
use Rattle.part_seat.proofs.turns.ask.Goals as goal

pub ask-answer-requires-clause-add : goal.ask-answer-requires-clause-add
ask-answer-requires-clause-add g c =
    let t = c.take-book.ensures in
    let found = is-found _ c.args.cpu.0 _ c.args.seat.now.seen c.take-book.result refl c.requires.seat.0 c.entries-found.ensures.kept t.later t.mine in
    (c.requires.may c.take-book.result.about (ap (λ k. k.subject) c.requires.cell ∙ t.subject) c.take-book.result.entries found).add

pub returns : goal.returns
returns g c s here =
    let t = c.take-book.ensures in
    let about = about-is _ _ s _ c.requires.cell here t.subject in
    let found = is-found s c.args.cpu.0 _ c.args.seat.now.seen c.take-book.result about c.requires.seat.0 c.entries-found.ensures.kept t.later t.mine in
    has-given s c.args.cpu.0 _ c.args.seat.now _ _ c.take-book.result _ about found c.requires.seat.1 t.seat c.ask-answer.ensures c.entries-given.ensures.kept c.give.ensures
