use Rattle.std.proofs.Common.{◌∙◌, ap, map}
use Rattle.std.proofs.lemmas.Result.{on_ok_weaker}
use Rattle.std.proofs.lemmas.Simd.{map-map}
use Rattle.chart_rows.specs.Rows.{task_finished, task_put}
use Rattle.chart_rows.specs.inside.Plays.{played_shown}
use Rattle.chart_rows.proofs.loops.close_tasks.Goals as goal

pub returns : goal.returns
returns c = on_ok_weaker c.put_tasks.result (λ put g once.
    let finish = task_finished g (map played_shown c.args.plays.now) in
    put g ∙ ap (map (task_put g)) (c.in_ok-finish_tasks.ensures g once) ∙ map-map (task_put g) finish c.args.tasks.now) c.put_tasks.ensures
