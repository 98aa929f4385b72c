use Rattle.std.proofs.Common.{◌≡◌, ◌∙◌, ap, set, sym}
use Rattle.std.specs.Prelude.{Some}
use Rattle.rt_base.specs.TaskNos.{number_of_task}
use Rattle.chart_rows.specs.Rows.{TaskKept}
use Rattle.chart_rows.specs.inside.Acted.{task_done}
use Rattle.chart_rows.proofs.OneChanged.{none-changed, one-changed}
use Rattle.chart_rows.proofs.OneRow.{done-own, done-stays, no-number, no-position, none-done}
use Rattle.chart_rows.proofs.loops.end_tasks.Goals as goal

pub returns-in_default : goal.returns-in_default
returns-in_default c = λ m once ended. sym (none-done m (sym ended ∙ no-number c.args.ended c.in_default.not-Some) c.args.tasks.now)

pub returns-in-Some-position_of : goal.returns-in-Some-position_of
returns-in-Some-position_of c = λ m once ended.
    let t = c.in-Some.task.0 in
    let own : m.act.ended ≡ Some t = sym ended ∙ ap number_of_task c.in-Some.is in
    let position = c.in-Some-position_of.position in
    let row : TaskKept = c.index-tasks-position.result in
    let at = c.in-Some-position_of.ensures in
    ap (set c.args.tasks.now position) (c.end.ensures ∙ sym (done-own m t own _ (at.1 row)))
    ∙ one-changed (λ (k : TaskKept). k.task) (task_done m) t (done-stays m t own) c.args.tasks.now position row once at.0 (at.1 row)

pub returns-in_default-position_of : goal.returns-in_default-position_of
returns-in_default-position_of c = λ m once ended.
    let t = c.in-Some.task.0 in
    let own : m.act.ended ≡ Some t = sym ended ∙ ap number_of_task c.in-Some.is in
    sym (none-changed (λ (k : TaskKept). k.task) (task_done m) t (done-stays m t own) c.args.tasks.now
    (no-position t c.args.tasks.now c.position_of.result c.position_of.ensures c.in_default-position_of.not-Some))
