use Rattle.std.proofs.Common.{◌≡◌, ◌∙◌, ◌-◌, ◌<◌, ap, length, sym, arith}
use Rattle.std.proofs.lemmas.List.{get_or_read}
use Rattle.chart_cells.specs.Cells.{cell_shown}
use Rattle.chart_rows.specs.Rows.{TaskKept}
use Rattle.event_texts.specs.TaskSpans as task_texts
use Rattle.event_lines.specs.Shown.{task_span_shown}
use Rattle.span_feed.proofs.Extending.{shown-first, shown-longer, shown-one-more}
use Rattle.span_feed.proofs.spans.take_task_span.Goals as goal
use Rattle.span_feed.proofs.spans.take_task_span.Goals.{else-count-gt0-via-then-count-gt0+else-same_cell, else-count-gt0-via-else-count-gt0}

pub returns-then-same_cell-clause-spans : goal.returns-then-same_cell-clause-spans
returns-then-same_cell-clause-spans c =
    let long : c.len-count.result ≡ length c.args.spans.now.items = omega (arith, c.len-count.ensures, c.args.spans.now.ok.0) in
    let low : c.len-count.result - 1 < length c.args.spans.now.items = omega (arith, long, c.if-count-gt0.true) in
    let here : c.index_mut.result.now ≡ c.index.result.now = c.index_mut.ensures.value ∙ sym (get_or_read _ _ _ low c.index.ensures c.index_mut.result.now) in
    let kept : cell_shown c.row.inside.kept ≡ c.args.row.now.kept = ap (λ (k : TaskKept). k.kept) c.row.view_is in
    shown-longer task_texts.same_cell task_span_shown c.args.from c.args.to c.args.row.now.kept c.args.spans.now.items c.len-count.result long
    c.index.result.now _ c.if-count-gt0.true c.index.ensures (ap (task_texts.same_cell (cell_shown c.index.result.now.cell)) (sym kept) ∙ sym c.same_cell.ensures ∙ c.if-same_cell.true) (λ i. record { from = (here i).from; to = c.args.to; value = cell_shown (here i).cell })

pub returns-clause-spans : goal.returns-clause-spans
returns-clause-spans c =
    let long : c.len-count.result ≡ length c.args.spans.now.items = omega (arith, c.len-count.ensures, c.args.spans.now.ok.0) in
    elim c.else-count-gt0.branch [
      | else-count-gt0-via-then-count-gt0+else-same_cell w ↦
          shown-one-more task_texts.same_cell task_span_shown c.args.from c.args.to c.args.row.now.kept c.args.spans.now.items c.len-count.result long _ c.push.new.self.items (λ i. record { from = c.args.from; to = c.args.to; value = c.take-cell.ensures.cell i }) c.in_ok-push.ensures.items
          w.index.result.now w.if-count-gt0.true w.index.ensures (ap (task_texts.same_cell (cell_shown w.index.result.now.cell)) (sym (ap (λ (k : TaskKept). k.kept) w.row.view_is)) ∙ sym w.same_cell.ensures ∙ w.if-same_cell.false)
      | else-count-gt0-via-else-count-gt0 w ↦
          shown-first task_texts.same_cell task_span_shown c.args.from c.args.to c.args.row.now.kept c.args.spans.now.items c.len-count.result long _ c.push.new.self.items (λ i. record { from = c.args.from; to = c.args.to; value = c.take-cell.ensures.cell i }) c.in_ok-push.ensures.items w.if-count-gt0.false
    ]
