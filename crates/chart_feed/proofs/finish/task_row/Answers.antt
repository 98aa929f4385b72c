use Rattle.std.proofs.Common.{◌≡◌, ◌∙◌, ◌<◌, ℕ, length, ap, subst, arith}
use Rattle.std.proofs.lemmas.List.{with_items_is}
use Rattle.std.proofs.lemmas.Simd.{map-map}
use Rattle.rt_task.specs.declared.Task.{Task}
use Rattle.rt_model.specs.Group.{task}
use Rattle.rt_model.specs.Releases.{arrivals}
use Rattle.chart_texts.specs.Charts.{task_row_in}
use Rattle.chart_cells.specs.Cells.{runs_shown}
use Rattle.chart_feed.specs.Clocks.{ClocksKept}
use Rattle.chart_feed.specs.inside.Marked.{marked_in}
use Rattle.chart_rows.specs.Rows.{TaskKept, ends_in}
use Rattle.chart_rows.specs.RunCells.{cells_of_runs, ends_of_runs}
use Rattle.chart_rows.specs.Strips.{strip_of}
use Rattle.chart_feed.specs.Times.{end_clocks}
use Rattle.chart_feed.proofs.Finishing.{marked-is}
use Rattle.chart_feed.proofs.Moves.{task-cells}
use Rattle.chart_feed.proofs.finish.task_row.Goals as goal

pub returns : goal.returns
unfolding task_row_in
returns c = λ g past cs f.
    let t : ℕ = c.args.row.task in
    let positive : 0 < (task g t).period = subst (λ (k : Task). 0 < k.period) f.task_is f.period in
    let items = c.row.inside.closed.items in
    let here : c.as_mut_slice.result.now ≡ items = c.as_mut_slice.ensures.value in
    let long : length c.set_marks.new.runs ≡ c.row.inside.closed.len = omega (arith, c.set_marks.auto.runs, ap length here, c.row.inside.closed.ok.0) in
    let arr : c.as_slice.result.now ≡ arrivals t past = c.as_slice.ensures.value ∙ ap (λ (k : ClocksKept). k.arrivals) (c.clocks.view_is ∙ f.clocks_are) in
    let ends : c.as_slice-2.result.now ≡ end_clocks t past = c.as_slice-2.ensures.value ∙ ap (λ (k : ClocksKept). k.ends) (c.clocks.view_is ∙ f.clocks_are) in
    let cells = ap cells_of_runs here ∙ ap (λ (k : TaskKept). k.cells) (c.row.view_is ∙ f.row_is) ∙ task-cells g t cs in
    let ended = ap ends_of_runs here ∙ ap (λ (k : TaskKept). k.ends) (c.row.view_is ∙ f.row_is) ∙ map-map (ends_in t) strip_of cs in
    let made =
    ap runs_shown (with_items_is c.row.inside.closed c.set_marks.new.runs long) ∙ c.set_marks.ensures
    ∙ (λ i. marked_in (f.task_is i) (arr i) (ends i) (f.clock_is i) (cells i) (ended i) (f.edges_are i))
    ∙ marked-is g t past positive cs f.timed in
    λ i. record { task = ap (λ (k : TaskKept). k.task) c.row.view_is i; cells = made i }
