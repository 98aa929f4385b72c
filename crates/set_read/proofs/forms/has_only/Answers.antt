use Rattle.std.proofs.Common.{map, ap, sym, ◌∙◌}
use Rattle.serde_json.specs.View.{view, members_view}
use Rattle.set_read.specs.Forms as forms
use Rattle.set_read.proofs.FormLaws.{all_among-members_view, object_of-members}
use Rattle.set_read.proofs.forms.has_only.Goals as goal

pub returns-in-Some : goal.returns-in-Some
returns-in-Some c =
    let words = map (λ w. w.now) c.args.words.now in
    ap forms.when (c.keys_among.ensures ∙ sym (all_among-members_view words c.in-Some.members.now.entries))
    ∙ object_of-members words (view c.args.v.now) (members_view c.in-Some.members.now.entries) c.in-Some.ensures
