use Rattle.std.proofs.lemmas.Option.{IfSome_then}
use Rattle.std.specs.Prelude.{codes}
use Rattle.json.specs.Lex.{tokens}
use Rattle.serde_json.specs.View.{view}
use Rattle.set_read.proofs.QuickLaws.{quick-read}
use Rattle.set_read.proofs.quick.draft_by_steps.Goals as goal

pub returns : goal.returns
returns c =
    let steps = c.in_ok-text.steps.now in
    let (front, leaves, written) = c.in_ok-value.ensures in
    IfSome_then c.draft_of.result c.draft_of.ensures
    (λ draft said.
    quick-read (codes "steps") c.args.bytes.now front (tokens steps) (view c.in_ok-value.value) draft c.requires
    (rw c.in_ok-text.ensures (leaves steps)) written said)
