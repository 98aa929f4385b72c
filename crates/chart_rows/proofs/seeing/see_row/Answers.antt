use Rattle.std.proofs.Common.{◌∙◌, ap, map, set, sym}
use Rattle.rt_base.specs.TaskNos.{number_of_task}
use Rattle.rank_afresh.specs.Standing.{group_of}
use Rattle.chart_rows.specs.Rows.{task_seen}
use Rattle.chart_rows.specs.inside.Finding.{only}
use Rattle.chart_rows.proofs.OneRow.{no-number, no-position, only-absent, only-none, only-position}
use Rattle.chart_rows.proofs.seeing.see_row.Goals as goal

pub returns-in_default : goal.returns-in_default
returns-in_default c = λ past at.
    let f = task_seen (group_of c.args.afresh.now) past in
    sym (ap (λ o. map (only o f) c.args.tasks.now) (no-number c.args.task c.in_default.not-Some) ∙ only-none f c.args.tasks.now)

pub returns-in_ok-see_task : goal.returns-in_ok-see_task
returns-in_ok-see_task c = λ past at.
    let f = task_seen (group_of c.args.afresh.now) past in
    let here = c.in-Some-position_of.ensures in
    ap (set c.args.tasks.now c.in-Some-position_of.position) (c.in_ok-see_task.ensures past at)
    ∙ only-position c.in-Some.task.0 f c.args.tasks.now c.in-Some-position_of.position c.index-tasks-position.result c.requires.once here.0 (here.1 c.index-tasks-position.result)
    ∙ ap (λ o. map (only (number_of_task o) f) c.args.tasks.now) (sym c.in-Some.is)

pub returns-in_default-position_of : goal.returns-in_default-position_of
returns-in_default-position_of c = λ past at.
    let f = task_seen (group_of c.args.afresh.now) past in
    sym (ap (λ o. map (only (number_of_task o) f) c.args.tasks.now) c.in-Some.is
    ∙ only-absent c.in-Some.task.0 f c.args.tasks.now (no-position c.in-Some.task.0 c.args.tasks.now c.position_of.result c.position_of.ensures c.in_default-position_of.not-Some))
