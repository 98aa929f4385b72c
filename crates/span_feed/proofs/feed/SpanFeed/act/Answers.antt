use Rattle.std.proofs.Common.{◌∙◌, List, [], ◌∷◌, ap, length, refl, subst, sym, All}
use Rattle.std.specs.Prelude.{Option}
use Rattle.std.proofs.lemmas.Result.{on_ok_weaker}
use Rattle.rt_model.specs.Past.{Acted, now}
use Rattle.rank_afresh.specs.Standing.{group_of}
use Rattle.trace_views.specs.Moments.{Moment}
use Rattle.view_acts.specs.ShownActs.{act_shown}
use Rattle.chart_rows.specs.AwayTasks.{AreAway}
use Rattle.chart_rows.specs.ReadyJobs.{AreReady, untouched}
use Rattle.chart_rows.specs.Rows.{RowsKept, rows_seen, task_acted, task_seen}
use Rattle.chart_rows.specs.Strips.{Strip, done, seen}
use Rattle.chart_rows.specs.declared.ready_jobs.ReadyJob.{ReadyJob}
use Rattle.chart_rows.proofs.AwayLaws.{away-after-act}
use Rattle.chart_rows.proofs.ReadyTasks.{ready-after-act}
use Rattle.chart_rows.proofs.RowParts.{listed-once, rows-listed}
use Rattle.event_lines.specs.Tracks.{GroupTracks}
use Rattle.span_feed.specs.Begun.{IsShown}
use Rattle.span_feed.specs.Feeds.{tracks_to}
use Rattle.span_feed.specs.Spanned.{HasSpans}
use Rattle.span_feed.specs.Still.{AreRested}
use Rattle.span_feed.specs.TickStrips.{tick_strip, ticks_below}
use Rattle.span_feed.proofs.Fed.{holds-same}
use Rattle.span_feed.proofs.Feeding.{act-taken, acted-up-to, state-seen}
use Rattle.span_feed.proofs.Holding.{all-act-shown}
use Rattle.span_feed.proofs.Stillness.{lanes-beside, rested-map}
use Rattle.chart_rows.proofs.TickLaws.{strip-acted}
use Rattle.span_feed.proofs.TickLaws.{below-acted}
use Rattle.span_feed.proofs.feed.SpanFeed.act.Goals as goal

pub wake_touched-requires-clause-long : goal.wake_touched-requires-clause-long
wake_touched-requires-clause-long c =
    let f = c.args.self.now in
    lanes-beside (group_of c.args.afresh.now) _ _ f.rows _ _ f.lanes.tasks.items c.requires.acted.3.0.spans refl

pub wake_touched-requires-clause-once : goal.wake_touched-requires-clause-once
wake_touched-requires-clause-once c = listed-once (group_of c.args.afresh.now) [] _ c.args.self.now.rows c.requires.acted.3.0.spans.rows_are

pub see_after-requires-clause-listed : goal.see_after-requires-clause-listed
see_after-requires-clause-listed c =
    let g = group_of c.args.afresh.now in
    let f = c.args.self.now in
    let past = c.requires.acted.0 in
    let tracks = tracks_to (length (ticks_below past (now past))) f.lanes in
    let m : Moment = record { act = act_shown c.args.act.now; before = past } in
    let fed = c.requires.acted.3.0 in
    let taken = act-taken g tracks _ _ m _ c.act.new.self fed.spans (c.in_ok-act.ensures g m (rows-listed g [] _ f.rows fed.spans.rows_are) refl (c.keep_if_done.ensures g m refl c.requires.acted.2)) in
    rows-listed g [] _ c.act.new.self taken.rows_are

pub see_after-requires-clause-at : goal.see_after-requires-clause-at
see_after-requires-clause-at c =
    let g = group_of c.args.afresh.now in
    let f = c.args.self.now in
    let past = c.requires.acted.0 in
    let tracks = tracks_to (length (ticks_below past (now past))) f.lanes in
    let m : Moment = record { act = act_shown c.args.act.now; before = past } in
    let fed = c.requires.acted.3.0 in
    let taken = act-taken g tracks _ _ m _ c.act.new.self fed.spans (c.in_ok-act.ensures g m (rows-listed g [] _ f.rows fed.spans.rows_are) refl (c.keep_if_done.ensures g m refl c.requires.acted.2)) in
    (past, c.requires.acted.1, acted-up-to g past _ c.act.new.self tracks m taken)

pub returns : goal.returns
returns c =
    let g = group_of c.args.afresh.now in
    let f = c.args.self.now in
    let d = act_shown c.args.act.now in
    on_ok_weaker c.see_after.result (λ made past at foretold fed.
    let over : List Strip = ticks_below past (now past) in
    let tracks = tracks_to (length over) f.lanes in
    let m : Moment = record { act = d; before = past } in
    let acted = c.in_ok-act.ensures g m (rows-listed g [] _ f.rows fed.0.spans.rows_are) refl (c.keep_if_done.ensures g m refl foretold) in
    let taken = act-taken g tracks _ _ m _ c.act.new.self fed.0.spans acted in
    let seen_all = made past at (acted-up-to g past _ c.act.new.self tracks m taken) in
    let same = c.wake_touched.ensures.tracks (length over) in
    let spans = subst (λ (x : GroupTracks). HasSpans g over (seen (Acted d ∷ past) (done m (tick_strip past (now past)))) c.see_after.new.self x) (sym same) (state-seen g tracks _ _ (Acted d ∷ past) _ _ taken seen_all) in
    let ready = ready-after-act g d past f.ready fed.1.0 at.core_at.reachable fed.1.1.0 in
    let all = all-act-shown g past d f.ready ready f.rows.tasks fed.0.shown in
    let rows = subst (λ (v : RowsKept). All (IsShown (untouched d f.ready)) v.tasks) (sym (seen_all ∙ ap (rows_seen g (Acted d ∷ past)) acted)) all in
    let shown = subst (λ (js : List (Option ReadyJob)). All (IsShown js) c.see_after.new.self.tasks) (sym c.take_act.ensures) rows in
    let lanes = c.wake_touched.new.lanes.tasks.items in
    let woken = rested-map _ lanes f.rows.tasks (task_acted g m) (λ k. refl) (c.wake_touched.ensures.rested f.ready fed.0.rested) in
    let after = subst (λ (v : RowsKept). AreRested (untouched d f.ready) lanes v.tasks) (sym (seen_all ∙ ap (rows_seen g (Acted d ∷ past)) acted)) (rested-map _ lanes _ (task_seen g (Acted d ∷ past)) (λ k. refl) woken) in
    let rested = subst (λ (js : List (Option ReadyJob)). AreRested js lanes c.see_after.new.self.tasks) (sym c.take_act.ensures) after in (
      holds-same g over _ _ _ (below-acted d past) (sym (strip-acted d past)) (record { spans = spans; shown = shown; rested = rested }),
      (fed.1.0, (subst (AreReady g (Acted d ∷ past)) (sym c.take_act.ensures) ready, subst (AreAway g (Acted d ∷ past)) (sym c.take_act-2.ensures) (away-after-act g d past f.away at.core_at.reachable fed.1.1.1))),
    )) c.see_after.ensures
