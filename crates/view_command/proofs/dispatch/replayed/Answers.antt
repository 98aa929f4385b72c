use Rattle.std.proofs.Common.{ℕ, List, sym, ap, ◌∙◌, subst}
use Rattle.std.specs.Prelude.{Result}
use Rattle.trace_text.specs.Groups.{AreGroupsOf, histories}
use Rattle.trace_check.specs.Groups.{HasGroups}
use Rattle.view_command.specs.Texts.{view_text}
use Rattle.view_command.specs.inside.Viewing.{IsViewed, Pieces}
use Rattle.view_command.specs.declared.ending.ViewEnd.{ViewEnd}
use Rattle.view_command.proofs.ViewLaws.{on-ok, view-said}
use Rattle.view_command.proofs.dispatch.replayed.Goals as goal

pub returns-in-Ok-Invalid-default : goal.returns-in-Ok-Invalid-default
returns-in-Ok-Invalid-default g c = λ tools opened.
    let h = c.args.head.now in
    let bytes = c.as_slice.result.now in
    subst (λ (xs : List ℕ). IsViewed tools h.version h.setup xs c.args.view c.wrong.result) c.as_slice.ensures.value
    (subst (λ (r : Result Pieces ViewEnd). IsViewed tools h.version h.setup bytes c.args.view r) (sym c.wrong.ensures)
    (rw c.in-Ok-Invalid-default.field-0-0-is at (c.in-Ok-Invalid-default.ensures.verdict tools opened)))

pub text_of-requires-clause-groups : goal.text_of-requires-clause-groups
text_of-requires-clause-groups g c =
    let h = c.args.head.now in
    let bytes = c.as_slice.result.now in
    let tools = c.requires.opened.0 in
    let opened = c.requires.opened.1 in
    let groups = c.in-Ok-Valid-default.groups.items in
    let is = rw c.in-Ok-Valid-default.field-0-0-is at (c.in-Ok-Valid-default.ensures.verdict tools opened) in
    let said = subst (HasGroups tools h.version h.setup bytes groups) c.in-Ok-Valid-default.field-0-0-is (c.in-Ok-Valid-default.ensures.groups tools opened) in
    subst (AreGroupsOf h.setup) (sym c.as_slice-in-Ok-Valid-default.ensures.value) (said is).0

pub returns-in-Ok-Valid-default : goal.returns-in-Ok-Valid-default
returns-in-Ok-Valid-default g c = λ tools opened.
    let h = c.args.head.now in
    let bytes = c.as_slice.result.now in
    let groups = c.in-Ok-Valid-default.groups.items in
    let is = rw c.in-Ok-Valid-default.field-0-0-is at (c.in-Ok-Valid-default.ensures.verdict tools opened) in
    let said = subst (HasGroups tools h.version h.setup bytes groups) c.in-Ok-Valid-default.field-0-0-is (c.in-Ok-Valid-default.ensures.groups tools opened) in
    subst (λ (xs : List ℕ). IsViewed tools h.version h.setup xs c.args.view c.there.result) c.as_slice.ensures.value
    (subst (λ (r : Result Pieces ViewEnd). IsViewed tools h.version h.setup bytes c.args.view r) (sym c.there.ensures)
    (view-said tools h.version h.setup bytes c.args.view c.in-Ok-Valid-default.field-0-0-0 c.text_of.result c.requires.valid is
    (on-ok c.text_of.result c.text_of.ensures
    (λ o text. text ∙ ap (view_text c.args.view h.setup) (ap histories c.as_slice-in-Ok-Valid-default.ensures.value ∙ (said is).1)))))
