use Rattle.std.proofs.Common.{◌≡◌, ◌++◌, List, length, true}
use Rattle.json.specs.Lex.{Place, may_begin, tokens}
use Rattle.json.specs.Token.{Token}
use Rattle.rt_task.specs.declared.draft.DraftStep.{DraftStep}
use Rattle.set_read.specs.Document.{step_form}
use Rattle.set_read.specs.Forms.{every}
use Rattle.set_read.specs.Names.{names_seen}
use Rattle.set_read.specs.inside.Texts.{tokens_at}
use Rattle.set_read.specs.inside.Tokens.{SaysItems, item_depth}
use Rattle.set_read.proofs.plain_steps.steps.Given as goal

-- what was found, and then what the rest is, is what all are
abbrev pub invariant-loop-found : goal.invariant-loop-found
invariant-loop-found l =
    (place : Place) × (may_begin place ≡ true)
    × ((steps : List DraftStep) (rest : List Token) → SaysItems item_depth (every (step_form (names_seen l.names)))
    (tokens_at place l.left) steps rest
    → SaysItems item_depth (every (step_form (names_seen l.names))) (tokens l.fn.bytes) (l.found.items ++ steps) rest)

abbrev pub decreases-loop-found : goal.decreases-loop-found
decreases-loop-found l = length l.left
