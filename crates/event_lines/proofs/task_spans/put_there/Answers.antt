use Rattle.std.proofs.Common.{◌∙◌, ◌++◌, ap}
use Rattle.std.proofs.lemmas.Result.{on_ok_weaker}
use Rattle.chart_cells.specs.Cells.{cell_shown}
use Rattle.event_lines.specs.TrackEvents.{some_group}
use Rattle.event_lines.proofs.Chains.{four_put}
use Rattle.event_lines.proofs.Pieces.{there-put}
use Rattle.event_lines.proofs.task_spans.put_there.Goals as goal

pub returns : goal.returns
returns c =
    on_ok_weaker c.put_arguments.result (λ last.
    let span = c.args.span.now in
    let text = c.args.text.now.items in
    four_put text _ _ _ _ _ _ _ _ c.in_ok-open_span.ensures (c.in_ok-put.ensures ∙ ap (λ words. c.open_span.new.text.items ++ words) c.head_of.ensures) c.in_ok-put_object.ensures last
    ∙ ap (λ xs. text ++ xs) (there-put (some_group c.args.set.now) c.args.thread.now span.from span.to (cell_shown span.cell))) c.put_arguments.ensures
