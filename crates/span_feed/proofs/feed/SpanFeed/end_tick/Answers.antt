use Rattle.std.proofs.Common.{◌≡◌, ◌<◌, ◌+◌, ◌∷◌, ◌++◌, [], length, map, refl, subst, sym, arith, length-append, All}
use Rattle.std.specs.Prelude.{None, slice_index_or}
use Rattle.rank_afresh.specs.Standing.{group_of}
use Rattle.chart_rows.specs.Rows.{RowsKept, TaskKept, played, task_finished}
use Rattle.chart_rows.proofs.RowParts.{rows-listed}
use Rattle.span_feed.specs.Begun.{IsRunOrReady}
use Rattle.span_feed.specs.Feeds.{tracks_to}
use Rattle.span_feed.specs.Spanned.{HasSpans}
use Rattle.span_feed.specs.Still.{AreRested}
use Rattle.span_feed.proofs.Feeding.{column-ended, one-tick}
use Rattle.span_feed.proofs.Holding.{all-run-or-ready, begun-at}
use Rattle.span_feed.proofs.Stillness.{rested-map}
use Rattle.span_feed.proofs.feed.SpanFeed.end_tick.Goals as goal

pub finish-requires-clause-listed : goal.finish-requires-clause-listed
finish-requires-clause-listed c = rows-listed (group_of c.args.afresh.now) [] _ c.args.self.now.rows c.requires.held.6.spans.rows_are

pub take_column-requires-clause-ended : goal.take_column-requires-clause-ended
take_column-requires-clause-ended c =
    let h = c.requires.held in
    let g = group_of c.args.afresh.now in
    let f = c.args.self.now in
    let has = subst (λ n. HasSpans g h.1 h.2 f.rows (tracks_to n f.lanes)) (sym h.5) h.6.spans in
    (g, h.1, h.2, column-ended g (tracks_to c.args.now f.lanes) h.1 h.2 h.0 f.rows c.finish.new.self h.4 has (c.in_ok-finish.ensures h.0 h.3))

pub take_column-requires-clause-shown : goal.take_column-requires-clause-shown
take_column-requires-clause-shown c =
    let h = c.requires.held in
    let g = group_of c.args.afresh.now in
    let f = c.args.self.now in
    subst (λ (v : RowsKept). All (λ (k : TaskKept). IsRunOrReady (slice_index_or f.ready k.task None) k) v.tasks) (sym (c.in_ok-finish.ensures h.0 h.3))
    (all-run-or-ready g f.ready (map (played g h.0) f.rows.cpus) f.rows.tasks h.6.shown)

pub take_column-requires-clause-rested : goal.take_column-requires-clause-rested
take_column-requires-clause-rested c =
    let h = c.requires.held in
    let g = group_of c.args.afresh.now in
    let f = c.args.self.now in
    let lanes = f.lanes.tasks.items in
    subst (λ (v : RowsKept). AreRested f.ready lanes v.tasks) (sym (c.in_ok-finish.ensures h.0 h.3)) (rested-map f.ready lanes f.rows.tasks (task_finished g (map (played g h.0) f.rows.cpus)) (λ k. refl) h.6.rested)

pub returns-clause-ended : goal.returns-clause-ended
returns-clause-ended c = λ past over going at newest long has.
    let g = group_of c.args.afresh.now in
    let f = c.args.self.now in
    let later : c.args.now < c.args.now + 1 = omega arith in
    let spans = subst (λ n. HasSpans g over going f.rows (tracks_to n f.lanes)) (sym long) has.spans in
    let size : c.args.now + 1 ≡ length (over ++ going ∷ []) = omega (arith, long, length-append over (going ∷ [])) in
    let ended = column-ended g (tracks_to c.args.now f.lanes) over going past f.rows c.finish.new.self newest spans (c.in_ok-finish.ensures past at) in
    record {
      column = begun-at g f.ready _ _ c.take_column.new.rows (λ n. tracks_to n c.take_column.new.lanes) _ _ (one-tick c.args.now over going) size (c.in_ok-take_column.ensures.begun g over going long later ended);
      still = c.in_ok-take_column.ensures.still g;
    }
