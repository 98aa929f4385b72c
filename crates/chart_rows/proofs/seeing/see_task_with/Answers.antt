use Rattle.std.proofs.lemmas.Option.{MatchOption-at_some}
use Rattle.std.proofs.Common.{◌∙◌, ap, subst, sym}
use Rattle.std.specs.Prelude.{Option, None, is_some, slice_index_or}
use Rattle.rank_afresh.specs.Standing.{IsAt, group_of}
use Rattle.chart_cells.specs.Cells.{cell_shown}
use Rattle.chart_rows.specs.RunCells.{cells_of_runs, ends_of_runs}
use Rattle.chart_rows.specs.ReadyJobs.{AreReady, IsReadyWith, KnowsMore}
use Rattle.chart_rows.specs.declared.ready_jobs.ReadyJob.{ReadyJob}
use Rattle.rt_model.specs.Past.{Past}
use Rattle.chart_rows.specs.Rows.{TaskKept, task_seen}
use Rattle.chart_rows.proofs.ReadyStates.{known-more, not-known, ready-more, ready-still, seen-ready}
use Rattle.chart_rows.proofs.seeing.see_task_with.Goals as goal

pub returns-then-is_some-clause-row : goal.returns-then-is_some-clause-row
returns-then-is_some-clause-row c = λ past at all.
    let there = ap (λ n. slice_index_or c.args.ready.now n None) (sym c.task-task.ensures) ∙ sym c.get.ensures in
    let shown = ap (λ (k : TaskKept). k.kept.doing) (sym c.row.view_is) ∙ c.shows_ready.ensures c.if-shows_ready.true in
    ready-still (group_of c.args.afresh.now) past c.args.ready.now c.args.row.now all (ap (λ (o : Option ReadyJob). is_some o) there ∙ sym c.is_some.ensures ∙ c.if-is_some.true) shown

pub returns-in-Some-clause-row : goal.returns-in-Some-clause-row
returns-in-Some-clause-row c = λ past at all.
    let g = group_of c.args.afresh.now in
    let was = c.row.inside in
    let k : TaskKept = record { task = was.task.0; cells = cells_of_runs was.closed.items; ends = ends_of_runs was.closed.items; kept = cell_shown was.kept; end = was.end } in
    let there = ap (λ n. slice_index_or c.args.ready.now n None) (ap (λ (x : TaskKept). x.task) c.row.view_is ∙ sym c.task-task.ensures) ∙ sym c.get-2.ensures ∙ c.in-Some.is in
    seen-ready g past c.args.ready.now k c.in-Some.job _ all there c.see_ready.ensures ∙ ap (task_seen g past) c.row.view_is

pub returns-clause-known : goal.returns-clause-known
returns-clause-known c =
    subst (KnowsMore c.args.ready.now) (sym c.set.ensures) (known-more c.args.ready.now c.task-task.result.0 _ (sym c.get-2.ensures ∙ not-known _ c.in_default.not-Some))

pub returns-clause-ready : goal.returns-clause-ready
returns-clause-ready c = λ past at all.
    let g = group_of c.args.afresh.now in
    let known : ReadyJob → Type 0 = λ j. (x : Past) → IsAt c.args.afresh.now x → IsReadyWith g x c.task-task.result.0 j in
    let job = MatchOption-at_some _ known _ c.in-Some-2.is c.in_ok-job.ensures.ready in
    subst (AreReady g past) (sym c.set.ensures) (ready-more g past c.args.ready.now c.task-task.result.0 _ all (job past at))
