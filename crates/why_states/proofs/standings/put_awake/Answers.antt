use Rattle.std.proofs.Common.{◌≡◌, ◌∙◌, true, false, sym, ap, subst}
use Rattle.std.proofs.lemmas.Result.{on_ok_weaker}
use Rattle.rt_rules.specs.Numbers.{has}
use Rattle.rt_model.specs.Group.{Group, tasks}
use Rattle.rt_model.specs.Tops.{eligible}
use Rattle.why_states.specs.States.{IsAt, group_of}
use Rattle.why_states.proofs.standings.put_awake.Goals as goal

pub eligible-requires : goal.eligible-requires
eligible-requires c = subst (λ (g : Group). has c.args.task.0 (tasks g) ≡ true) (sym c.requires.at.1.group_is) c.requires.task

pub returns-then-eligible : goal.returns-then-eligible
returns-then-eligible c =
    on_ok_weaker c.put.result (λ put past is.
    let told = sym (c.eligible.ensures past is.at ∙ ap (λ (x : Group). eligible x c.args.task.0 past) is.group_is) ∙ c.if-eligible.true in
    rw told put) c.put.ensures

pub returns-else-eligible : goal.returns-else-eligible
returns-else-eligible c =
    on_ok_weaker c.put_kept_back.result (λ put past is.
    let told = sym (c.eligible.ensures past is.at ∙ ap (λ (x : Group). eligible x c.args.task.0 past) is.group_is) ∙ c.if-eligible.false in
    rw told (put past is)) c.put_kept_back.ensures
