use Rattle.std.proofs.Common.{◌≡◌, ◌++◌, List, length, true}
use Rattle.json.specs.Lex.{Place, may_begin, tokens}
use Rattle.json.specs.Token.{Token}
use Rattle.rt_task.specs.declared.draft.Piece.{Piece}
use Rattle.set_read.specs.Document.{piece_form}
use Rattle.set_read.specs.Forms.{every}
use Rattle.set_read.specs.Names.{names_seen}
use Rattle.set_read.specs.inside.Texts.{tokens_at}
use Rattle.set_read.specs.inside.Tokens.{SaysItems, piece_depth}
use Rattle.set_read.proofs.plain_bodies.pieces.Given as goal

-- what was found, and then what the rest is, is what all are
abbrev pub invariant-loop-found : goal.invariant-loop-found
invariant-loop-found l =
    (place : Place) × (may_begin place ≡ true)
    × ((pieces : List Piece) (rest : List Token) → SaysItems piece_depth (every (piece_form (names_seen l.names)))
    (tokens_at place l.left) pieces rest
    → SaysItems piece_depth (every (piece_form (names_seen l.names))) (tokens l.fn.bytes) (l.found.items ++ pieces) rest)

abbrev pub decreases-loop-found : goal.decreases-loop-found
decreases-loop-found l = length l.left
