use Rattle.std.proofs.Common.{◌∙◌, refl, sym, ap, subst}
use Rattle.std.specs.Prelude.{◌==◌}
use Rattle.std.proofs.lemmas.Result.{on_ok_weaker}
use Rattle.rt_base.specs.TaskNos.{number_of_task}
use Rattle.rt_rules.specs.Numbers.{is}
use Rattle.job_facts.specs.Deeds.{run}
use Rattle.job_facts.specs.Tallies.{Jobs}
use Rattle.view_acts.specs.ShownActs.{act_shown}
use Rattle.job_views.specs.Told.{HasRoom, jobs_in}
use Rattle.job_views.proofs.Updates.{jobs_in-at, run-worker, updated}
use Rattle.job_views.proofs.moves.run.Goals as goal

pub run-requires-clause-room : goal.run-requires-clause-room
run-requires-clause-room c =
    let here = jobs_in-at c.args.tasks.now c.in-Some.task.0 c.index-tasks-task.result c.if-task-tasks.true in
    subst (λ (r : Jobs). HasRoom r.current) here (c.requires.room c.in-Some.task.0 c.if-task-tasks.true)

pub returns-in-Some : goal.returns-in-Some
returns-in-Some c =
    let d = act_shown c.args.act.now in
    let o = number_of_task c.args.worker in
    on_ok_weaker c.run.result (λ made t low.
    updated (λ b r. run b c.is_task.result c.args.clock.0 c.args.asked d r) (λ r. refl) c.args.tasks.now c.in-Some.task.0 c.index-tasks-task.result c.run.new.self c.if-task-tasks.true made t low
    ∙ ap (λ w. run (t == c.in-Some.task.0) w c.args.clock.0 c.args.asked d (jobs_in c.args.tasks.now t)) c.is_task.ensures
    ∙ run-worker t c.in-Some.task.0 o c.args.clock.0 c.args.asked d (jobs_in c.args.tasks.now t)
    ∙ ap (λ u. run (is t u) (is t o) c.args.clock.0 c.args.asked d (jobs_in c.args.tasks.now t)) (sym (ap number_of_task c.in-Some.is))) c.run.ensures
