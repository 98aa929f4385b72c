use Rattle.std.proofs.Common.{◌∙◌, refl, sym, ap}
use Rattle.std.proofs.lemmas.Result.{on_ok_weaker}
use Rattle.rt_base.specs.TaskNos.{number_of_task}
use Rattle.rt_rules.specs.Numbers.{is}
use Rattle.chart_feed.specs.Clocks.{clocks_at, ended}
use Rattle.chart_feed.proofs.Noted.{updated}
use Rattle.chart_feed.proofs.clocks.end.Goals as goal

pub returns-in-Some : goal.returns-in-Some
returns-in-Some c =
    on_ok_weaker c.end.result (λ made t low.
    updated (λ b k. ended b c.args.clock k) (λ k. refl) c.args.tasks.now c.in-Some.task.0 c.index-tasks-task.result c.end.new.self c.if-task-tasks.true made t low
    ∙ ap (λ o. ended (is t o) c.args.clock (clocks_at c.args.tasks.now t)) (sym (ap number_of_task c.in-Some.is))) c.end.ensures
