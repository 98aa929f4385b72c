use Rattle.std.proofs.Common.{◌∙◌, sym, ap, subst}
use Rattle.std.proofs.lemmas.Result.{IfOk-weaker}
use Rattle.rt_model.specs.Group.{Group}
use Rattle.rt_model.specs.Histories.{past_of}
use Rattle.rt_model.specs.Steps.{IsStepOf}
use Rattle.rt_plays.specs.Plays.{group_with}
use Rattle.why_texts.specs.WhyText.{entry_text}
use Rattle.view_why.proofs.texts.entry_text.Goals as goal

pub take_noting-requires-clause-group : goal.take_noting-requires-clause-group
take_noting-requires-clause-group c = c.in_ok-replay.ensures.group ∙ sym c.in_ok-members.ensures.group

pub take_noting-requires-clause-step : goal.take_noting-requires-clause-step
take_noting-requires-clause-step c = subst (λ (g : Group). IsStepOf g c.args.entry.now.step) (sym c.in_ok-members.ensures.group) c.requires.step

pub text_of-requires-clause-noted : goal.text_of-requires-clause-noted
text_of-requires-clause-noted c = (past_of (group_with c.args.setup.now c.args.group.0) c.args.before.now, c.in_ok-noted.ensures.noted _ c.in_ok-replay.ensures.at, c.in_ok-noted.ensures.at _ c.in_ok-replay.ensures.at)

pub returns : goal.returns
returns c =
    IfOk-weaker c.text_of.result _ _ (λ text told.
    let past = past_of (group_with c.args.setup.now c.args.group.0) c.args.before.now in
    told past (c.in_ok-noted.ensures.noted past c.in_ok-replay.ensures.at) (c.in_ok-noted.ensures.at past c.in_ok-replay.ensures.at) ∙ ap (λ (g : Group). entry_text g c.args.number c.args.entry.now past) c.in_ok-members.ensures.group) c.text_of.ensures
