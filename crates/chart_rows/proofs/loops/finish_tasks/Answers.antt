use Rattle.std.proofs.Common.{◌∙◌, ap, map, subst, sym, take}
use Rattle.rt_rules.specs.Distinct.{IsDistinct}
use Rattle.chart_rows.specs.Listed.{tasks_listed}
use Rattle.chart_rows.specs.Rows.{task_finished}
use Rattle.chart_rows.specs.inside.Finding.{only}
use Rattle.chart_rows.specs.inside.Plays.{played_shown}
use Rattle.chart_rows.proofs.Finishing.{finished-more, finished-none, finished-over, finished-tasks}
use Rattle.chart_rows.proofs.loops.finish_tasks.Goals as goal

pub loop-played-init : goal.loop-played-init
loop-played-init c = λ g once. finished-none g (map played_shown c.args.plays.now) c.args.tasks.now

pub loop-played-preserved : goal.loop-played-preserved
loop-played-preserved c = λ g once.
    let ps = map played_shown c.args.plays.now in
    let before = c.loop-played.invariant g once in
    let still : IsDistinct (tasks_listed c.loop-played.tasks) = subst IsDistinct (sym (ap tasks_listed before ∙ finished-tasks g ps (map played_shown (take c.loop-played.played-index c.args.plays.now)) c.args.tasks.now)) once in
    finished-more g c.args.plays.now c.loop-played.played-index _ c.args.tasks.now c.loop-played.tasks c.finish_row.new.tasks c.loop-played-test.true before
    (c.in_ok-finish_row.ensures g still ∙ ap (λ o. map (only o (task_finished g ps)) c.loop-played.tasks) c.idly_run.ensures)

pub returns : goal.returns
returns c = λ g once. finished-over g c.args.plays.now c.loop-played.played-index c.args.tasks.now c.loop-played.tasks c.loop-played-test.false (c.loop-played.invariant g once)
