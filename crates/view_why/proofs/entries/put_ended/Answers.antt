use Rattle.std.proofs.Common.{◌≡◌, ◌∙◌, ◌++◌, ◌∷◌, [], true, sym, ap, subst, append-nil}
use Rattle.std.proofs.lemmas.Result.{on_ok_weaker}
use Rattle.std.specs.Prelude.{codes, decimal}
use Rattle.rt_base.specs.TaskNos.{number_of_task}
use Rattle.rt_rules.specs.Numbers.{has}
use Rattle.rt_model.specs.Group.{Group, tasks}
use Rattle.rt_model.specs.Histories.{after, clock_moved}
use Rattle.rt_model.specs.Outcomes.{past_act}
use Rattle.rt_model.specs.Past.{PastAct}
use Rattle.why_texts.specs.Pieces.{line, task_name}
use Rattle.why_texts.specs.WhyText.{ended_line}
use Rattle.view_why.proofs.EntryLaws.{ended-one, ended-there}
use Rattle.view_why.specs.inside.Groups.{group_of}
use Rattle.view_why.proofs.entries.put_ended.Goals as goal

pub done-requires : goal.done-requires
done-requires c =
    let g = group_of c.args.members.now in
    let ends = ap number_of_task (sym c.in-Some.is) ∙ ap (λ (d : PastAct). d.ended) c.requires.noted.1.act_is in
    subst (λ (x : Group). has c.in-Some.task.0 (tasks x) ≡ true) (sym (c.afresh.ensures.group ∙ c.requires.group)) (ended-there g c.args.entry.now.step c.requires.noted.0 c.in-Some.task.0 ends c.requires.members.valid c.requires.noted.1.made)

pub returns-in-Some : goal.returns-in-Some
unfolding past_act
returns-in-Some c =
    on_ok_weaker c.put_ended_line.result (λ put past notes at.
    let g = group_of c.args.members.now in
    let step = c.args.entry.now.step in
    let t = c.in-Some.task.0 in
    let ends = ap number_of_task (sym c.in-Some.is) ∙ ap (λ (d : PastAct). d.ended) notes.act_is in
    let job = c.done.ensures.shown (after g step past) (c.afresh.ensures.at (after g step past) at) ∙ ended-one g step past t ends in
    put ∙ ap (λ n. c.args.out.now.items ++ line (codes "ended job " ∷ decimal n ∷ codes " of " ∷ task_name g t ∷ [])) job ∙ ap (λ o. c.args.out.now.items ++ ended_line g o (clock_moved step past)) ends) c.put_ended_line.ensures

pub returns-in-None : goal.returns-in-None
unfolding past_act
returns-in-None c = λ past notes at.
    let g = group_of c.args.members.now in
    let step = c.args.entry.now.step in
    let ends = ap number_of_task (sym c.in-None.is) ∙ ap (λ (d : PastAct). d.ended) notes.act_is in
    sym (append-nil c.args.out.now.items) ∙ ap (λ o. c.args.out.now.items ++ ended_line g o (clock_moved step past)) ends
