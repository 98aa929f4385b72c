use Rattle.std.proofs.Common.{◌∙◌, refl, sym, ap}
use Rattle.std.proofs.lemmas.Result.{on_ok_weaker}
use Rattle.rt_base.specs.TaskNos.{number_of_task}
use Rattle.rt_rules.specs.Numbers.{is}
use Rattle.job_marks.specs.JobTimes.{times_in}
use Rattle.job_marks.specs.Times.{arrived_if}
use Rattle.job_marks.proofs.Updates.{updated}
use Rattle.job_marks.proofs.moves.arrive.Goals as goal

pub returns-in-Some : goal.returns-in-Some
returns-in-Some c =
    on_ok_weaker c.arrive.result (λ made t low.
    updated (λ b r. arrived_if b c.args.clock.0 r) (λ r. refl) c.args.tasks.now c.in-Some.task.0 c.index-tasks-task.result c.arrive.new.self c.if-task-tasks.true made t low
    ∙ ap (λ o. arrived_if (is t o) c.args.clock.0 (times_in c.args.tasks.now t)) (sym (ap number_of_task c.in-Some.is) ∙ c.arrived.ensures)) c.arrive.ensures
