use Rattle.std.proofs.Common.{◌∙◌, ◌++◌, ◌∷◌, [], ap}
use Rattle.std.proofs.lemmas.Result.{on_ok_weaker}
use Rattle.std.specs.Prelude.{codes, decimal}
use Rattle.rt_model.specs.Histories.{clock_moved}
use Rattle.rt_model.specs.Outcomes.{ended, past_act}
use Rattle.rt_model.specs.Past.{PastAct}
use Rattle.why_texts.specs.Pieces.{line, task_or_dash}
use Rattle.why_texts.specs.Sentences.{sentence}
use Rattle.why_texts.specs.WhyText.{ended_line, ran_line, trace_line}
use Rattle.view_why.proofs.EntryLaws.{text-of_four}
use Rattle.view_why.specs.inside.Groups.{group_of}
use Rattle.view_why.proofs.entries.put_act_lines.Goals as goal

pub returns : goal.returns
unfolding past_act
returns c =
    on_ok_weaker c.put_ended.result (λ put past notes at.
    let g = group_of c.args.members.now in
    let e = c.args.entry.now in
    let old = c.args.out.now.items in
    let moved = clock_moved e.step past in
    let first = trace_line g c.args.number e past in
    let told = ended_line g (ended g e.step.cpu.0 e.step.act moved) moved in
    let traced = c.in_ok-put_trace_line.ensures past notes at in
    let ran = ap (λ (d : PastAct). d.task) notes.act_is in
    let with_ran = c.in_ok-put_ran_line.ensures ∙ ap (λ o. c.put_trace_line.new.out.items ++ line (codes "processor " ∷ decimal e.step.cpu.0 ∷ codes " ran " ∷ task_or_dash g o ∷ [])) ran ∙ ap (λ ys. ys ++ ran_line g e moved) traced in
    let with_sentence = c.in_ok-put_sentence_line.ensures ∙ ap (λ ys. ys ++ line (sentence e.reply ∷ [])) with_ran in
    put past notes at ∙ ap (λ ys. ys ++ told) with_sentence ∙ text-of_four old first (ran_line g e moved) (line (sentence e.reply ∷ [])) told) c.put_ended.ensures
