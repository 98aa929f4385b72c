use Rattle.std.proofs.Common.{◌∙◌, ◌++◌, List, ap, arith, map}
use Rattle.chart_cells.specs.Cells.{column_shown}
use Rattle.chart_cells.specs.declared.cells.Marks.{Marks}
use Rattle.svg_texts.specs.TaskRows.{marks_from}
use Rattle.svg_lines.proofs.RunMarks.{run-put}
use Rattle.svg_lines.proofs.rows.put_all_marks.Goals as goal

pub loop-run-preserved : goal.loop-run-preserved
loop-run-preserved c =
    let r = c.run-item.result in
    run-put c.args.edge c.args.y c.loop-run.column c.in_ok-behind.behind c.args.runs.now c.loop-run.run-index r c.loop-run.out.items c.put_columns_marks.new.out.items _ c.loop-run-test.true c.run-item.is
    (omega (arith, c.in_ok-behind.ensures, c.len.ensures, r.marks.ok.0)) (c.in_ok-put_columns_marks.ensures r.cell ∙ ap (λ (ms : List Marks). c.loop-run.out.items ++ marks_from c.args.edge c.args.y c.loop-run.column (map (column_shown r.cell) ms)) c.deref.ensures.value) c.loop-run.invariant
