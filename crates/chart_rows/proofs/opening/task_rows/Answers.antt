use Rattle.std.proofs.Common.{◌∙◌, [], map, ap}
use Rattle.rt_base.specs.declared.TaskNo.{TaskNo}
use Rattle.rt_base.specs.TaskNos.{numbers}
use Rattle.chart_cells.specs.Kept.{cell_of_states, kept_cell}
use Rattle.chart_rows.specs.Rows.{task_kept}
use Rattle.chart_rows.specs.Strips.{blank}
use Rattle.chart_rows.proofs.Changed.{made-all, made-more}
use Rattle.chart_rows.proofs.opening.task_rows.Goals as goal

pub loop-task-preserved : goal.loop-task-preserved
unfolding kept_cell cell_of_states
loop-task-preserved c = λ g.
    made-more (λ (x : TaskNo). x.0) (task_kept g [] blank) c.args.tasks.now c.loop-task.task-index _ c.new.result c.loop-task.rows.items c.push.new.self.items c.loop-task-test.true (c.loop-task.invariant g) (c.new.ensures g) c.in_ok-push.ensures.items

pub returns : goal.returns
returns c = λ g. c.loop-task.invariant g ∙ ap (λ xs. map (task_kept g [] blank) (numbers xs)) (made-all c.args.tasks.now c.loop-task.task-index c.loop-task-test.false)
