use Rattle.std.proofs.Common.{◌≡◌, ◌++◌, sym, ap, ◌∙◌}
use Rattle.json.specs.Json.{value}
use Rattle.json.specs.Lex.{tokens}
use Rattle.serde_json.specs.Read.{read}
use Rattle.serde_json.specs.View.{view}
use Rattle.set_read.specs.inside.Texts.{closing}
use Rattle.set_read.proofs.OpenLaws.{opens_items}
use Rattle.set_read.proofs.last_member.before_items.Goals as goal

pub returns-in-Ok : goal.returns-in-Ok
returns-in-Ok c =
    let text = c.args.text.now in
    let n = c.args.depth in
    let whole : c.as_slice.result.now ≡ text ++ closing = c.as_slice.ensures.value ∙ c.in_ok-whole.ensures in
    let again : c.as_slice-2.result.now ≡ text ++ closing = c.as_slice-2.ensures.value ∙ c.in_ok-whole.ensures in
    let known = c.ends_with_no_items.ensures c.if-not-ends_with_no_items.false in
    opens_items c.args.name.now n text known.0 (view c.in-Ok.value) c.requires (ap (λ t. value n (tokens t)) (sym whole) ∙ known.1)
    (ap read (sym again) ∙ c.in-Ok.ensures.ok.1)
