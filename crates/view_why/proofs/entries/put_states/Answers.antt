use Rattle.std.proofs.Common.{◌∙◌, ◌++◌, ◌∷◌, [], ap}
use Rattle.std.proofs.lemmas.Result.{on_ok_weaker}
use Rattle.std.specs.Prelude.{codes}
use Rattle.rt_model.specs.Group.{Group}
use Rattle.rt_model.specs.Histories.{after, clock_moved}
use Rattle.why_texts.specs.Pieces.{line}
use Rattle.why_texts.specs.StateText.{state_text}
use Rattle.view_why.proofs.EntryLaws.{text-of_four}
use Rattle.view_why.specs.inside.Groups.{group_of}
use Rattle.view_why.proofs.entries.put_states.Goals as goal

pub put_state-requires : goal.put_state-requires
put_state-requires c = (after (group_of c.args.members.now) c.args.entry.now.step c.requires.noted.0, c.state_of.ensures.at _ c.requires.noted.2)

pub returns : goal.returns
returns c =
    on_ok_weaker c.put_state.result (λ put past notes at.
    let g = group_of c.args.members.now in
    let step = c.args.entry.now.step in
    let old = c.args.out.now.items in
    let now = after g step past in
    let head = line (codes "before the act" ∷ []) in
    let between = state_text g (clock_moved step past) in
    let middle = line (codes "after the act" ∷ []) in
    let with_between = c.in_ok-put-2.ensures ∙ ap (λ ys. c.put.new.out.items ++ ys) (c.as_slice.ensures.value ∙ notes.between_is) ∙ ap (λ ys. ys ++ between) c.in_ok-put.ensures in
    let with_middle = c.in_ok-put-3.ensures ∙ ap (λ ys. ys ++ middle) with_between in
    put now (c.state_of.ensures.at now at) ∙ ap (λ (x : Group). c.put-3.new.out.items ++ state_text x now) c.state_of.ensures.group ∙ ap (λ ys. ys ++ state_text g now) with_middle ∙ text-of_four old head between middle (state_text g now)) c.put_state.ensures
