use Rattle.std.proofs.Common.{◌∙◌}
use Rattle.chart_rows.specs.Rows.{task_put}
use Rattle.chart_rows.proofs.Changed.{changed-all, changed-more}
use Rattle.chart_rows.proofs.loops.put_tasks.Goals as goal

pub loop-row-preserved : goal.loop-row-preserved
loop-row-preserved c = λ g.
    changed-more (task_put g) c.args.tasks.now c.loop-row.tasks c.loop-row.row-index c.row-item.result c.close.new.self c.loop-row-test.true (c.loop-row.invariant g) c.row-item.is (c.in_ok-close.ensures g)

pub returns : goal.returns
returns c = λ g. c.loop-row.invariant g ∙ changed-all (task_put g) c.args.tasks.now c.loop-row.row-index c.loop-row-test.false
