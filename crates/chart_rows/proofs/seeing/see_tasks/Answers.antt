use Rattle.std.proofs.Common.{◌≡◌, ◌∙◌, true}
use Rattle.rt_rules.specs.Numbers.{has}
use Rattle.rt_model.specs.Group.{tasks}
use Rattle.rank_afresh.specs.Standing.{group_of}
use Rattle.chart_rows.specs.Rows.{TaskKept, task_seen}
use Rattle.chart_rows.proofs.Changed.{changed-all, changed-all-at, changed-more}
use Rattle.chart_rows.proofs.seeing.see_tasks.Goals as goal

pub see_task-requires-clause-task : goal.see_task-requires-clause-task
see_task-requires-clause-task c =
    let g = group_of c.args.afresh.now in
    let past = c.requires.at.0 in
    changed-all-at (λ (k : TaskKept). has k.task (tasks g) ≡ true) (task_seen g past) c.args.tasks.now c.loop-row.tasks c.loop-row.row-index c.row-item.result c.requires.tasks c.loop-row-test.true (c.loop-row.invariant past c.requires.at.1) c.row-item.is

pub loop-row-preserved : goal.loop-row-preserved
loop-row-preserved c = λ past at.
    let g = group_of c.args.afresh.now in
    changed-more (task_seen g past) c.args.tasks.now c.loop-row.tasks c.loop-row.row-index c.row-item.result c.see_task.new.row c.loop-row-test.true (c.loop-row.invariant past at) c.row-item.is (c.in_ok-see_task.ensures past at)

pub returns : goal.returns
returns c = λ past at. c.loop-row.invariant past at ∙ changed-all (task_seen (group_of c.args.afresh.now) past) c.args.tasks.now c.loop-row.row-index c.loop-row-test.false
