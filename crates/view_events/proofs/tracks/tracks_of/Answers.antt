use Rattle.std.proofs.Common.{◌∙◌, sym, ap, subst, arith, All}
use Rattle.std.proofs.lemmas.Result.{IfOk-weaker}
use Rattle.rt_task.specs.declared.Parts.{Parts}
use Rattle.rt_model.specs.Group.{Group}
use Rattle.event_lines.specs.Shown.{group_tracks_shown}
use Rattle.event_lines.specs.Tracks.{GroupTracks}
use Rattle.event_lines.specs.TracksOf.{tracks_of}
use Rattle.span_feed.specs.Feeds.{IsFed}
use Rattle.span_feed.specs.Spanned.{unmarked}
use Rattle.view_events.specs.inside.JobMarks.{AreJobsOf, HasTaskOf}
use Rattle.view_events.specs.inside.Recordings.{group_of}
use Rattle.view_events.proofs.Marked.{marked-are, unmarked-tasks}
use Rattle.view_events.proofs.tracks.tracks_of.Goals as goal

pub close-requires-clause-fed : goal.close-requires-clause-fed
close-requires-clause-fed c =
    let past = c.requires.recorded.0 in
    let is = c.requires.recorded.1 in
    (past, c.now-clock.ensures.at past is.at, c.afresh.ensures.at past is.at, subst (λ (x : Group). IsFed x past c.args.recording.feed) (sym c.afresh.ensures.group) is.fed)

pub marked-requires : goal.marked-requires
marked-requires c =
    let g = group_of c.args.recording in
    let past = c.requires.recorded.0 in
    let is = c.requires.recorded.1 in
    let closed = c.in_ok-tracks.ensures past (c.now-clock.ensures.at past is.at) (c.afresh.ensures.at past is.at) (subst (λ (x : Group). IsFed x past c.args.recording.feed) (sym c.afresh.ensures.group) is.fed)
    ∙ ap (λ (x : Group). unmarked (tracks_of x past)) c.afresh.ensures.group in
    let tasks = ap (λ (x : GroupTracks). x.tasks) closed in (
      g,
      past,
      record {
        tasks_are = c.as_slice.ensures ∙ ap (λ (p : Parts). p.tasks) (c.parts-parts.ensures.parts ∙ c.requires.setup);
        valid = is.at.whole.valid;
        kept = is.kept;
        few = omega (arith, is.at.ranked.few);
        clock_is = c.now-clock.ensures.at past is.at;
        count = is.tasks;
      },
      subst (All (HasTaskOf g)) (sym tasks) (unmarked-tasks g past),
    )

pub returns : goal.returns
returns c =
    IfOk-weaker c.marked.result _ _ (λ x is_marked past is.
    let g = group_of c.args.recording in
    let closed = c.in_ok-tracks.ensures past (c.now-clock.ensures.at past is.at) (c.afresh.ensures.at past is.at) (subst (λ (x : Group). IsFed x past c.args.recording.feed) (sym c.afresh.ensures.group) is.fed)
    ∙ ap (λ (x : Group). unmarked (tracks_of x past)) c.afresh.ensures.group in
    let tasks = ap (λ (x : GroupTracks). x.tasks) closed in
    let are : AreJobsOf g past c.as_slice.result.now c.args.recording.times c.now-clock.result.0 = record {
      tasks_are = c.as_slice.ensures ∙ ap (λ (p : Parts). p.tasks) (c.parts-parts.ensures.parts ∙ c.requires.setup);
      valid = is.at.whole.valid;
      kept = is.kept;
      few = omega (arith, is.at.ranked.few);
      clock_is = c.now-clock.ensures.at past is.at;
      count = is.tasks;
    } in
    let all = subst (All (HasTaskOf g)) (sym tasks) (unmarked-tasks g past) in
    is_marked g past are all ∙ marked-are g past (group_tracks_shown c.in_ok-tracks.tracks) closed) c.marked.ensures
