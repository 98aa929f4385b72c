use Rattle.std.proofs.Common.{◌≡◌, ◌∙◌, ◌+◌, ◌<◌, ◌++◌, List, ap, arith, drop, get_or, length, map, refl, set, sym, take}
use Rattle.std.proofs.lemmas.List.{drop-drop, get_or_default, take_rest}
use Rattle.chart_cells.specs.Cells.{runs_shown}
use Rattle.chart_cells.specs.declared.cells.Run.{Run}
use Rattle.chart_rows.specs.RunCells.{cells_of_run, cells_of_runs, ends_of_run, ends_of_runs}
use Rattle.chart_feed.specs.declared.times.Edges.{Edges}
use Rattle.chart_feed.specs.inside.Marked.{edges_shown, marked_in}
use Rattle.chart_feed.proofs.RunMarks.{run-counted, run-marked}
use Rattle.chart_feed.proofs.marking.set_marks.Goals as goal

pub loop-i-init : goal.loop-i-init
loop-i-init c = record {
  counted = c.first_counted-counted.ensures c.args.now;
  size = omega (arith, c.requires.size);
  marked = refl;
}

pub loop-i-preserved : goal.loop-i-preserved
loop-i-preserved c =
    let runs = c.loop-i.runs in
    let i = c.loop-i.i in
    let d = c.index-runs-i-in-loop-i.result in
    let here : Run = get_or runs i d in
    let there : Run = get_or runs i c.index-runs-i.result in
    let edges = c.args.edges.now in
    let after : List Run = set runs i c.mark_run.new.run in
    let low : i < length runs = omega (arith, c.loop-i-test.true, c.loop-i.auto.runs) in
    let same : length there.marks.items ≡ length here.marks.items = ap (λ (r : Run). length r.marks.items) (get_or_default runs i c.index-runs-i.result d low) in
    let columns : c.len-columns.result ≡ length here.marks.items = omega (arith, c.len-columns.ensures, there.marks.ok.0, same) in
    let left : drop (c.loop-i.at + c.len-columns.result) edges ≡ drop (length here.marks.items) (drop c.loop-i.at edges) = ap (λ n. drop (c.loop-i.at + n) edges) columns ∙ sym (drop-drop (length here.marks.items) c.loop-i.at edges) in
    let whole = take_rest edges c.loop-i.at in
    let shown = c.mark_run.ensures.marked ∙ ap (λ (es : List Edges). marked_in c.args.task.now c.args.arrivals.now c.args.ends.now c.args.now (cells_of_run here) (ends_of_run here) (map edges_shown es)) whole in
    record {
      counted = c.mark_run.ensures.counted;
      size = omega (arith, run-counted runs i d c.mark_run.new.run low, columns, c.loop-i.invariant.size);
      marked =
          ap (λ (es : List Edges). runs_shown (take (i + 1) after) ++ marked_in c.args.task.now c.args.arrivals.now c.args.ends.now c.args.now (cells_of_runs (drop (i + 1) after)) (ends_of_runs (drop (i + 1) after)) (map edges_shown es)) left
          ∙ run-marked c.args.task.now c.args.arrivals.now c.args.ends.now c.args.now runs i d c.mark_run.new.run (drop c.loop-i.at edges) _ low shown c.loop-i.invariant.marked;
    }
