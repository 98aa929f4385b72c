use Rattle.std.proofs.Common.{◌≡◌, ◌++◌, List, true}
use Rattle.json.specs.Lex.{Place, may_begin, tokens}
use Rattle.json.specs.Token.{Token}
use Rattle.rt_task.specs.declared.draft.DraftTask.{DraftTask}
use Rattle.set_read.specs.Names.{names_seen}
use Rattle.set_read.specs.inside.Texts.{tokens_at}
use Rattle.set_read.specs.inside.Tokens.{SaysItems, item_depth, tasks_read}
use Rattle.set_read.proofs.plain_tasks.tasks.Given as goal

-- what was found, and then what the rest is, is what all are
abbrev pub invariant-loop-number : goal.invariant-loop-number
invariant-loop-number l =
    (place : Place) × (may_begin place ≡ true)
    × ((tasks : List DraftTask) (rest : List Token) → SaysItems item_depth (tasks_read (names_seen l.names) l.number)
    (tokens_at place l.left) tasks rest
    → SaysItems item_depth (tasks_read (names_seen l.names) 1) (tokens l.fn.bytes) (l.found.items ++ tasks) rest)
