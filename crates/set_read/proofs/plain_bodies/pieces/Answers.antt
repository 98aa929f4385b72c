use Rattle.std.proofs.Common.{◌≡◌, ◌∷◌, ◌++◌, [], refl, arith, append_assoc}
use Rattle.json.specs.Lex.{after_comma, after_value}
use Rattle.set_read.specs.Document.{piece_form}
use Rattle.set_read.specs.Forms.{every}
use Rattle.set_read.specs.Names.{names_seen}
use Rattle.set_read.specs.inside.Texts.{tokens_at}
use Rattle.set_read.specs.inside.Tokens.{piece_depth}
use Rattle.set_read.proofs.PlainLaws.{one_last, one_more}
use Rattle.set_read.proofs.plain_bodies.pieces.Goals as goal

pub loop-found-preserved : goal.loop-found-preserved
loop-found-preserved c =
    let (place, begin, so_far) = c.loop-found.invariant in
    let s = c.in_ok-piece in
    let names = names_seen c.args.names.now in
    let pushed : c.push.new.self.items ≡ c.loop-found.found.items ++ s.piece ∷ [] = grind arith in (
      after_comma,
      refl,
      λ pieces rest says.
          rw (pushed, append_assoc)
          (so_far (s.piece ∷ pieces) rest
          (one_more piece_depth (piece_form names) (every (piece_form names)) (every (piece_form names))
          (λ d ds. refl) place c.loop-found.left.now s.rest.now c.in-Some.more.now s.piece pieces rest begin s.ensures.says
          c.in-Some.ensures.lexed says)),
    )

pub returns-in-None : goal.returns-in-None
returns-in-None c =
    let (place, begin, so_far) = c.loop-found.invariant in
    let s = c.in_ok-piece in
    let names = names_seen c.args.names.now in
    let last = c.in_ok-after-in-None in
    let pushed : c.push.new.self.items ≡ c.loop-found.found.items ++ s.piece ∷ [] = grind arith in
    rw pushed
    (so_far (s.piece ∷ []) (tokens_at after_value last.field-0.now)
    (one_last piece_depth (piece_form names) (every (piece_form names)) (every (piece_form names))
    (λ d ds. refl) place c.loop-found.left.now s.rest.now
    last.field-0.now s.piece refl begin s.ensures.says last.ensures.lexed))
