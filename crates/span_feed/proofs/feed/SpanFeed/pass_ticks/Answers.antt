use Rattle.std.proofs.Common.{◌≡◌, ◌∙◌, ◌<◌, ◌-◌, ◌++◌, [], length, map, refl, subst, sym, arith, length-append, All}
use Rattle.std.specs.Prelude.{None, replicate, slice_index_or}
use Rattle.std.proofs.lemmas.List.{length-replicate}
use Rattle.rank_afresh.specs.Standing.{group_of}
use Rattle.chart_rows.specs.Rows.{RowsKept, TaskKept, played, task_finished, task_seen}
use Rattle.chart_rows.specs.Strips.{blank, seen}
use Rattle.chart_rows.proofs.RowParts.{rows-listed}
use Rattle.span_feed.specs.Begun.{IsRunOrReady, rows_cleared}
use Rattle.span_feed.specs.Feeds.{tracks_to}
use Rattle.span_feed.specs.Still.{AreRested}
use Rattle.span_feed.proofs.Feeding.{column-ended}
use Rattle.span_feed.proofs.Holding.{all-first-shown, all-run-or-ready, begun-at, begun-column, begun-listed, begun-seen}
use Rattle.span_feed.proofs.Stillness.{rested-map, still-rested}
use Rattle.span_feed.proofs.feed.SpanFeed.pass_ticks.Goals as goal

pub see-requires-clause-listed : goal.see-requires-clause-listed
see-requires-clause-listed c =
    let g = group_of c.args.afresh.now in
    begun-listed g c.args.self.now.rows (rows-listed g [] blank (rows_cleared g c.args.self.now.rows) c.requires.5.column.spans.rows_are)

pub finish-requires-clause-listed : goal.finish-requires-clause-listed
finish-requires-clause-listed c =
    let g = group_of c.args.afresh.now in
    let f = c.args.self.now in
    let h = c.requires in
    let shown = begun-column g f.ready h.1 h.0 f.rows c.see.new.self (tracks_to (length h.1) f.lanes) h.3 h.5.column (c.in_ok-see.ensures h.0 h.2) in
    rows-listed g [] (seen h.0 blank) c.see.new.self shown.rows_are

pub take_column-requires-clause-ended : goal.take_column-requires-clause-ended
take_column-requires-clause-ended c =
    let g = group_of c.args.afresh.now in
    let f = c.args.self.now in
    let h = c.requires in
    let tracks = tracks_to c.args.from f.lanes in
    let begun = begun-at g f.ready h.1 h.1 f.rows (λ n. tracks_to n f.lanes) (length h.1) c.args.from refl (sym h.4) h.5.column in
    let shown = begun-column g f.ready h.1 h.0 f.rows c.see.new.self tracks h.3 begun (c.in_ok-see.ensures h.0 h.2) in
    (g, h.1, seen h.0 blank, column-ended g tracks h.1 (seen h.0 blank) h.0 c.see.new.self c.finish.new.self refl shown (c.in_ok-finish.ensures h.0 h.2))

pub take_column-requires-clause-shown : goal.take_column-requires-clause-shown
take_column-requires-clause-shown c =
    let g = group_of c.args.afresh.now in
    let f = c.args.self.now in
    let h = c.requires in
    let shown = all-first-shown g h.0 f.ready h.3 f.rows c.see.new.self (c.in_ok-see.ensures h.0 h.2 ∙ begun-seen g h.0 f.ready h.3 f.rows h.5.column.begun) in
    subst (λ (v : RowsKept). All (λ (k : TaskKept). IsRunOrReady (slice_index_or f.ready k.task None) k) v.tasks) (sym (c.in_ok-finish.ensures h.0 h.2))
    (all-run-or-ready g f.ready (map (played g h.0) c.see.new.self.cpus) c.see.new.self.tasks shown)

pub take_column-requires-clause-rested : goal.take_column-requires-clause-rested
take_column-requires-clause-rested c =
    let g = group_of c.args.afresh.now in
    let f = c.args.self.now in
    let h = c.requires in
    let lanes = f.lanes.tasks.items in
    let first = rested-map f.ready lanes f.rows.tasks (task_seen g h.0) (λ k. refl) (still-rested f.ready lanes f.rows.tasks h.5.still) in
    let shown = subst (λ (v : RowsKept). AreRested f.ready lanes v.tasks) (sym (c.in_ok-see.ensures h.0 h.2)) first in
    subst (λ (v : RowsKept). AreRested f.ready lanes v.tasks) (sym (c.in_ok-finish.ensures h.0 h.2)) (rested-map f.ready lanes _ (task_finished g (map (played g h.0) c.see.new.self.cpus)) (λ k. refl) shown)

pub returns-clause-passed : goal.returns-clause-passed
returns-clause-passed c = λ past over at ready long has.
    let g = group_of c.args.afresh.now in
    let f = c.args.self.now in
    let later : c.args.from < c.args.to = omega (arith, c.if-to-from.false) in
    let x = seen past blank in
    let tracks = tracks_to c.args.from f.lanes in
    let begun = begun-at g f.ready over over f.rows (λ n. tracks_to n f.lanes) (length over) c.args.from refl (sym long) has.column in
    let shown = begun-column g f.ready over past f.rows c.see.new.self tracks ready begun (c.in_ok-see.ensures past at) in
    let size : c.args.to ≡ length (over ++ replicate (c.args.to - c.args.from) x) = omega (arith, later, long, length-append over (replicate (c.args.to - c.args.from) x), length-replicate (c.args.to - c.args.from) x) in
    let ended = column-ended g tracks over x past c.see.new.self c.finish.new.self refl shown (c.in_ok-finish.ensures past at) in
    record {
      column = begun-at g f.ready _ _ c.take_column.new.rows (λ n. tracks_to n c.take_column.new.lanes) _ _ refl size (c.in_ok-take_column.ensures.begun g over x long later ended);
      still = c.in_ok-take_column.ensures.still g;
    }
