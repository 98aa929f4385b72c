use Rattle.std.proofs.Common.{◌≡◌, ◌∙◌, false, sym, ap, subst}
use Rattle.std.specs.Prelude.{None, OnOk, Option, slice_index_or}
use Rattle.rt_model.specs.Group.{Group}
use Rattle.chart_rows.specs.Rows.{TaskKept}
use Rattle.chart_rows.specs.declared.ready_jobs.ReadyJob.{ReadyJob}
use Rattle.event_texts.specs.TaskSpans as task_texts
use Rattle.span_feed.specs.Begun.{IsLeft}
use Rattle.span_feed.specs.Extended.{extended}
use Rattle.span_feed.specs.Lane.{TaskLane, spans_to}
use Rattle.span_feed.specs.Still.{IsStill}
use Rattle.span_feed.proofs.LaneLaws.{goes-on-left, goes-on-shown, goes-on-still, last-goes-on}
use Rattle.span_feed.proofs.Sameness.{task_cells}
use Rattle.span_feed.proofs.lane.TaskLane.take.Goals as goal

pub returns-then-goes_on-clause-row : goal.returns-then-goes_on-clause-row
returns-then-goes_on-clause-row c = λ g.
    let left = goes-on-left _ c.args.self.now c.args.row.now c.requires.run c.requires.rested g (c.goes_on.ensures c.if-goes_on.true) in
    subst (λ (k : TaskKept). IsLeft g (slice_index_or c.args.ready.now c.args.row.now.task None) c.args.row.now (record k { end = false })) (sym c.row.view_is) left

pub returns-then-goes_on-clause-track : goal.returns-then-goes_on-clause-track
returns-then-goes_on-clause-track c =
    let l : TaskLane = c.args.self.now in
    let h = goes-on-shown _ l c.args.row.now c.requires.run c.requires.rested (c.goes_on.ensures c.if-goes_on.true) in
    let spans =
    ap (λ o. spans_to c.args.to o l.track.spans) h.1 ∙ sym (last-goes-on task_texts.same_cell c.args.from c.args.to h.0 task_cells l.track.spans h.2)
    ∙ (λ i. extended task_texts.same_cell c.args.from c.args.to (sym h.3 i) (spans_to c.args.from (sym h.1 i) l.track.spans)) in
    λ i. record l.track { spans = spans i }

pub returns-then-goes_on-clause-still : goal.returns-then-goes_on-clause-still
returns-then-goes_on-clause-still c =
    let still = goes-on-still _ c.args.self.now c.args.row.now c.requires.run c.requires.rested (c.goes_on.ensures c.if-goes_on.true) in
    subst (λ (k : TaskKept). IsStill (slice_index_or c.args.ready.now c.args.row.now.task None) c.args.self.now (record k { end = false })) (sym c.row.view_is) still

pub returns-clause-row : goal.returns-clause-row
returns-clause-row c =
    let known : c.get-known.result ≡ slice_index_or c.args.ready.now c.args.row.now.task None =
    c.get-known.ensures ∙ ap (λ (k : TaskKept). slice_index_or c.args.ready.now k.task None) c.row.view_is in
    subst (λ (o : Option ReadyJob). OnOk c.take_anew.result ((g : Group) → IsLeft g o c.args.row.now c.take_anew.new.row)) known c.take_anew.ensures.row

pub returns-clause-still : goal.returns-clause-still
returns-clause-still c =
    let known : c.get-known.result ≡ slice_index_or c.args.ready.now c.args.row.now.task None =
    c.get-known.ensures ∙ ap (λ (k : TaskKept). slice_index_or c.args.ready.now k.task None) c.row.view_is in
    subst (λ (o : Option ReadyJob). OnOk c.take_anew.result (IsStill o c.take_anew.new.self c.take_anew.new.row)) known c.take_anew.ensures.still
