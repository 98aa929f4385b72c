use Rattle.std.proofs.Common.{◌∙◌, ◌++◌, ap}
use Rattle.std.proofs.lemmas.Result.{on_ok_weaker}
use Rattle.svg_texts.specs.Lanes.{lane}
use Rattle.svg_texts.specs.TaskLanes as task_lanes
use Rattle.svg_lines.proofs.RunSpans.{parts-shown}
use Rattle.svg_lines.proofs.lanes.put_task_lane.Goals as goal

pub returns : goal.returns
returns c =
    on_ok_weaker c.put_task_spans.result (λ put.
    put ∙ ap (λ parts. c.args.out.now.items ++ lane (task_lanes.draw_task_part c.args.set.now c.args.task c.args.y) c.args.edge parts)
    (parts-shown c.args.shown c.args.runs.now)) c.put_task_spans.ensures
