use Rattle.std.proofs.Common.{ap, refl, sym, ◌∙◌}
use Rattle.set_explain.specs.Rules.{first_some}
use Rattle.set_explain.proofs.TestLaws.{◌then◌, tested}
use Rattle.std.specs.Prelude.{is_some}
use Rattle.serde_json.specs.View.{view}
use Rattle.set_explain.specs.ShapeRules.{has_slots}
use Rattle.set_explain.proofs.shape.resv_shape.Goals as goal

pub returns : goal.returns
returns c =
    c.first.ensures
    ∙ ap first_some (
    tested _ _ _ _ c.unless.ensures (c.has_members-members.ensures)
    then tested _ _ _ _ c.unless-2.ensures (c.has_text.ensures)
    then tested _ _ _ _ c.unless-3.ensures (c.may_have_number.ensures)
    then tested _ _ _ _ c.unless-4.ensures (c.is_some.ensures ∙ ap is_some c.kind_at-kind.ensures)
    then tested _ _ _ _ c.unless-5.ensures (c.has_number.ensures)
    then tested _ _ _ _ c.unless-6.ensures (c.has_number-2.ensures)
    then tested _ _ _ _ c.unless-7.ensures (c.may_have_number-2.ensures)
    then tested _ _ _ _ c.unless-8.ensures (c.in_ok-slots.ensures ∙ ap (λ k. has_slots k (view c.args.v.now)) c.kind_at-kind.ensures)
    then refl)
