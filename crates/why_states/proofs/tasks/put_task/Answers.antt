use Rattle.std.proofs.Common.{◌≡◌, ◌∙◌, ◌+◌, ◌++◌, ◌∷◌, [], true, sym, ap, subst}
use Rattle.std.proofs.lemmas.Result.{on_ok_weaker}
use Rattle.std.specs.Prelude.{codes, decimal}
use Rattle.rt_model.specs.Jobs.{done}
use Rattle.why_texts.specs.Pieces.{task_name}
use Rattle.why_texts.specs.TaskLines.{job_or_absent}
use Rattle.why_states.proofs.Rows.{line-of_five}
use Rattle.rt_rules.specs.Numbers.{has}
use Rattle.rt_model.specs.Group.{Group, tasks}
use Rattle.why_states.specs.States.{IsAt, group_of}
use Rattle.why_states.proofs.tasks.put_task.Goals as goal

pub done-requires : goal.done-requires
done-requires c = subst (λ (g : Group). has c.args.task.0 (tasks g) ≡ true) (sym c.requires.at.1.group_is) c.requires.task

pub returns : goal.returns
returns c =
    on_ok_weaker c.put.result (λ put past is.
    let done_is = ap (λ n. n + 1) (c.done.ensures.shown past is.at) in
    let g = group_of c.args.state.now in
    let t = c.args.task.0 in
    let old = c.args.out.now.items in
    put ∙ ap (λ ys. ys ++ 10 ∷ []) (c.in_ok-put_job_or_absent.ensures past is ∙ ap (λ ys. ys ++ job_or_absent g t past) (c.in_ok-put_job_start.ensures ∙ ap (λ n. old ++ (codes "  task " ++ (task_name g t ++ (codes " job " ++ decimal n)))) done_is))
    ∙ line-of_five old (codes "  task ") (task_name g t) (codes " job ") (decimal (done t past + 1)) (job_or_absent g t past) (10 ∷ [])) c.put.ensures
