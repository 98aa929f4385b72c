use Rattle.std.proofs.Common.{◌∙◌, [], List, map, ap, refl, subst, sym, All}
use Rattle.std.specs.Prelude.{Option}
use Rattle.rt_task.specs.Validity.{IsValid}
use Rattle.chart_rows.specs.AwayTasks.{AreAway}
use Rattle.chart_rows.specs.ReadyJobs.{AreReady}
use Rattle.chart_rows.specs.declared.ready_jobs.ReadyJob.{ReadyJob}
use Rattle.chart_rows.proofs.AwayLaws.{none-away}
use Rattle.chart_rows.proofs.ReadyStates.{none-ready}
use Rattle.rank_afresh.specs.Standing.{group_of}
use Rattle.chart_rows.specs.Strips.{blank}
use Rattle.chart_rows.proofs.RowParts.{rows-listed}
use Rattle.span_feed.specs.Begun.{IsShown}
use Rattle.span_feed.specs.Spanned.{cpu_spanned, resv_spanned, task_spanned}
use Rattle.span_feed.proofs.Feeding.{opened}
use Rattle.span_feed.proofs.Holding.{none-shown}
use Rattle.span_feed.proofs.Stillness.{lanes-beside, none-rested}
use Rattle.span_feed.proofs.feed.SpanFeed.open.Goals as goal

pub see-requires-clause-listed : goal.see-requires-clause-listed
see-requires-clause-listed c =
    let g = group_of c.args.afresh.now in
    rows-listed g [] blank c.in_ok-rows.rows (c.in_ok-rows.ensures g c.requires.tasks c.requires.cpus c.requires.resvs)

pub returns : goal.returns
returns c =
    let g = group_of c.args.afresh.now in
    let spans = opened g c.in_ok-rows.rows c.see.new.self _ (c.in_ok-rows.ensures g c.requires.tasks c.requires.cpus c.requires.resvs) (c.in_ok-see.ensures [] c.requires.at)
    c.requires.group
    (c.in_ok-task_lanes.ensures.lanes g ∙ ap (map (task_spanned g [])) c.requires.tasks)
    (c.in_ok-cpu_tracks.ensures g ∙ ap (map (cpu_spanned g [])) c.requires.cpus)
    (c.in_ok-resv_tracks.ensures g ∙ ap (map (resv_spanned g [])) c.requires.resvs) in
    let shown = subst (λ (js : List (Option ReadyJob)). All (IsShown js) c.see.new.self.tasks) (sym c.in_ok-ready.ensures) (none-shown _ c.see.new.self.tasks) in
    let long = lanes-beside g [] _ c.see.new.self _ 0 c.in_ok-task_lanes.field-0.items spans refl in
    let rested = none-rested c.in_ok-ready.ready c.in_ok-task_lanes.field-0.items c.see.new.self.tasks long c.in_ok-task_lanes.ensures.none_rests in
    (record { spans = spans; shown = shown; rested = rested }, (subst IsValid c.requires.parts c.requires.valid, (subst (AreReady g []) (sym c.in_ok-ready.ensures) (none-ready g [] _), subst (AreAway g []) (sym c.in_ok-away.ensures) (none-away g [] _))))
