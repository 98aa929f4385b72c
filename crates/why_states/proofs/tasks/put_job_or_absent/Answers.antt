use Rattle.std.proofs.Common.{◌≡◌, ◌∙◌, true, false, sym, ap, subst}
use Rattle.std.proofs.lemmas.Result.{on_ok_weaker}
use Rattle.rt_rules.specs.Numbers.{has}
use Rattle.rt_model.specs.Group.{Group, tasks}
use Rattle.rt_model.specs.Releases.{exists, release}
use Rattle.why_states.specs.States.{IsAt, group_of}
use Rattle.why_states.proofs.tasks.put_job_or_absent.Goals as goal

pub exists-requires : goal.exists-requires
exists-requires c = subst (λ (g : Group). has c.args.task.0 (tasks g) ≡ true) (sym c.requires.at.1.group_is) c.requires.task

pub release-requires : goal.release-requires
release-requires c = subst (λ (g : Group). has c.args.task.0 (tasks g) ≡ true) (sym c.requires.at.1.group_is) c.requires.task

pub returns-then-exists : goal.returns-then-exists
returns-then-exists c =
    on_ok_weaker c.put_job.result (λ put past is.
    let told = sym (c.exists.ensures past is.at ∙ ap (λ (x : Group). exists x c.args.task.0 past) is.group_is) ∙ c.if-exists.true in
    rw told (put past is)) c.put_job.ensures

pub returns-else-exists : goal.returns-else-exists
returns-else-exists c =
    on_ok_weaker c.put_absent.result (λ put past is.
    let told = sym (c.exists.ensures past is.at ∙ ap (λ (x : Group). exists x c.args.task.0 past) is.group_is) ∙ c.if-exists.false in
    let release_is = c.release.ensures.release past is.at ∙ ap (λ (x : Group). release x c.args.task.0 past) is.group_is in
    rw (told, ← release_is) put) c.put_absent.ensures
