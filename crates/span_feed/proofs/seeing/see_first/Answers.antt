use Rattle.std.proofs.Common.{◌∙◌, List, ap, subst, sym}
use Rattle.chart_rows.specs.Rows.{RowsKept, TaskKept}
use Rattle.span_feed.specs.Lane.{TaskLane}
use Rattle.span_feed.specs.Still.{AreStill}
use Rattle.span_feed.proofs.seeing.see_first.Goals as goal

pub see_tasks-requires-clause-still : goal.see_tasks-requires-clause-still
see_tasks-requires-clause-still c =
    let rows = c.as_mut_slice.ensures.value ∙ ap (λ (v : RowsKept). v.tasks) c.rows.view_is in
    subst (λ (x : List TaskLane × List TaskKept). AreStill c.args.ready.now x.0 x.1) (λ i. (sym c.as_slice.ensures.value i, sym rows i)) c.requires.still
