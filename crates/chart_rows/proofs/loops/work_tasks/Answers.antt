use Rattle.std.proofs.Common.{◌∙◌, ap, set, subst, sym}
use Rattle.chart_rows.specs.Rows.{TaskKept}
use Rattle.chart_rows.specs.Units.{IsTold, IsUnitOf}
use Rattle.chart_rows.specs.inside.Acted.{task_worked}
use Rattle.chart_rows.proofs.OneChanged.{none-changed, one-changed}
use Rattle.chart_rows.proofs.OneRow.{no-position, none-worked, worked-stays}
use Rattle.chart_rows.proofs.loops.work_tasks.Goals as goal

pub returns-in_default : goal.returns-in_default
returns-in_default c = λ g m once acted told. sym (none-worked g m c.args.unit.now c.in_default.not-Some told c.args.tasks.now)

pub returns-in_ok-work_task : goal.returns-in_ok-work_task
returns-in_ok-work_task c = λ g m once acted told.
    let unit : IsUnitOf g m c.in-Some.unit = subst (IsTold g m) c.in-Some.is told in
    let t = c.in-Some.unit.task.0 in
    let position = c.in-Some-position_of.position in
    let row : TaskKept = c.index-tasks-position.result in
    let at = c.in-Some-position_of.ensures in
    ap (set c.args.tasks.now position) (c.in_ok-work_task.ensures g m acted unit (at.1 row))
    ∙ one-changed (λ (k : TaskKept). k.task) (task_worked g m) t (worked-stays g m t unit.task_is) c.args.tasks.now position row once at.0 (at.1 row)

pub returns-in_default-position_of : goal.returns-in_default-position_of
returns-in_default-position_of c = λ g m once acted told.
    let unit : IsUnitOf g m c.in-Some.unit = subst (IsTold g m) c.in-Some.is told in
    let t = c.in-Some.unit.task.0 in
    sym (none-changed (λ (k : TaskKept). k.task) (task_worked g m) t (worked-stays g m t unit.task_is) c.args.tasks.now
    (no-position t c.args.tasks.now c.position_of.result c.position_of.ensures c.in_default-position_of.not-Some))
