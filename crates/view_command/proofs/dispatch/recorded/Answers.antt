use Rattle.std.proofs.Common.{ℕ, List, sym, subst}
use Rattle.std.specs.Prelude.{Result}
use Rattle.view_events.specs.TextTracks.{HasTracks}
use Rattle.view_command.specs.inside.Viewing.{IsViewed, Pieces}
use Rattle.view_command.specs.declared.ending.ViewEnd.{ViewEnd}
use Rattle.view_command.specs.declared.views.View.TheVariants.{Events}
use Rattle.view_command.proofs.ViewLaws.{on-ok, view-said}
use Rattle.view_command.proofs.dispatch.recorded.Goals as goal

pub returns-in-Ok-Invalid-default : goal.returns-in-Ok-Invalid-default
returns-in-Ok-Invalid-default g c = λ tools opened.
    let h = c.args.head.now in
    let bytes = c.as_slice.result.now in
    subst (λ (xs : List ℕ). IsViewed tools h.version h.setup xs Events c.wrong.result) c.as_slice.ensures.value
    (subst (λ (r : Result Pieces ViewEnd). IsViewed tools h.version h.setup bytes Events r) (sym c.wrong.ensures)
    (rw c.in-Ok-Invalid-default.field-0-0-is at (c.in-Ok-Invalid-default.ensures.verdict tools opened)))

pub returns-in-Ok-Valid-default : goal.returns-in-Ok-Valid-default
returns-in-Ok-Valid-default g c = λ tools opened.
    let h = c.args.head.now in
    let bytes = c.as_slice.result.now in
    let tracks = c.in-Ok-Valid-default.tracks.items in
    let is = rw c.in-Ok-Valid-default.field-0-0-is at (c.in-Ok-Valid-default.ensures.verdict tools opened) in
    let said = subst (HasTracks tools h.version h.setup bytes tracks) c.in-Ok-Valid-default.field-0-0-is (c.in-Ok-Valid-default.ensures.tracks tools opened) in
    subst (λ (xs : List ℕ). IsViewed tools h.version h.setup xs Events c.there.result) c.as_slice.ensures.value
    (subst (λ (r : Result Pieces ViewEnd). IsViewed tools h.version h.setup bytes Events r) (sym c.there.ensures)
    (view-said tools h.version h.setup bytes Events c.in-Ok-Valid-default.field-0-0-0 c.text_of_tracks.result c.requires.valid is
    (on-ok c.text_of_tracks.result c.text_of_tracks.ensures
    (λ o text. text is.histories (said is)))))
