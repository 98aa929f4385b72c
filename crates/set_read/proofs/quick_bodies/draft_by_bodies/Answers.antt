use Rattle.std.proofs.lemmas.Option.{IfSome_then}
use Rattle.std.specs.Prelude.{codes}
use Rattle.json.specs.Lex.{tokens}
use Rattle.serde_json.specs.View.{view}
use Rattle.set_read.proofs.QuickLaws.{quick-read}
use Rattle.set_read.proofs.quick_bodies.draft_by_bodies.Goals as goal

pub returns : goal.returns
returns c =
    let tasks = c.in_ok-text.tasks.now in
    let (front, leaves, written) = c.in_ok-value.ensures in
    IfSome_then c.draft_of.result c.draft_of.ensures
    (λ draft said.
    quick-read (codes "tasks") c.args.bytes.now front (tokens tasks) (view c.in_ok-value.value) draft c.requires
    (rw c.in_ok-text.ensures (leaves tasks)) written said)
