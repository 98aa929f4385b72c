use Rattle.std.proofs.Common.{◌≡◌, [], sym}
use Rattle.std.proofs.lemmas.Option.{IfSome_then}
use Rattle.std.specs.Prelude.{codes}
use Rattle.json.specs.Lex.{tokens}
use Rattle.serde_json.specs.Data.{no_items}
use Rattle.serde_json.specs.View.{view}
use Rattle.set_read.specs.Document.{steps}
use Rattle.set_read.specs.Seen.{whole_seen}
use Rattle.set_read.specs.inside.Tokens.{with_steps}
use Rattle.set_read.proofs.DraftLaws.{completed}
use Rattle.set_read.proofs.WholeLaws.{whole_of-steps}
use Rattle.set_read.proofs.quick.draft_of.Goals as goal

pub returns : goal.returns
returns c =
    let w = whole_seen c.in_ok-whole.whole in
    IfSome_then c.draft_with_steps.result c.draft_with_steps.ensures
    (λ draft said.
    completed (codes "steps") (w.play ≡ steps []) (with_steps w) (view c.args.value.now) (tokens c.args.bytes.now) w draft
    (λ ds ms e. whole_of-steps no_items ds ms w e) (sym c.in_ok-whole.ensures) said)
