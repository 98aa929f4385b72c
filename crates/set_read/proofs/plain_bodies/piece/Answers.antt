use Rattle.std.proofs.lemmas.Option.{IfSome_then}
use Rattle.set_read.specs.Names.{names_seen}
use Rattle.set_read.proofs.PlainLaws.{plain_piece}
use Rattle.set_read.proofs.plain_bodies.piece.Goals as goal

pub returns-clause-says : goal.returns-clause-says
returns-clause-says c =
    IfSome_then c.piece_end.result c.piece_end.ensures.says
    (λ x says. plain_piece (names_seen c.args.names.now) c.args.bytes.now c.in_ok-after.field-0.now x.1.now x.0
    c.in_ok-after.ensures.lexed says)
