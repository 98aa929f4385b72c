use Rattle.std.proofs.Common.{◌∙◌, ◌≤◌, refl, sym, ap, subst}
use Rattle.rt_base.specs.TaskNos.{number_of_task}
use Rattle.rt_base.specs.declared.TheConstants.{MOST_STEPS}
use Rattle.rt_rules.specs.Numbers.{is}
use Rattle.job_facts.specs.Deeds.{taken}
use Rattle.job_facts.specs.Tallies.{Jobs}
use Rattle.job_views.specs.Told.{jobs_in}
use Rattle.job_views.proofs.Updates.{jobs_in-at, updated}
use Rattle.job_views.proofs.moves.take_up.Goals as goal

pub take_up-requires : goal.take_up-requires
take_up-requires c =
    let here = jobs_in-at c.args.tasks.now c.in-Some.task.0 c.index-tasks-task.result c.if-task-tasks.true in
    subst (λ (r : Jobs). r.current.moves ≤ MOST_STEPS) here (c.requires c.in-Some.task.0 c.if-task-tasks.true)

pub returns-in-Some : goal.returns-in-Some
returns-in-Some c = λ t low.
    updated (λ b r. taken b c.args.act.now.cpu.0 r) (λ r. refl) c.args.tasks.now c.in-Some.task.0 c.index-tasks-task.result c.take_up.new.self c.if-task-tasks.true c.take_up.ensures t low
    ∙ ap (λ o. taken (is t o) c.args.act.now.cpu.0 (jobs_in c.args.tasks.now t)) (sym (ap number_of_task c.in-Some.is) ∙ c.taken_up.ensures)
