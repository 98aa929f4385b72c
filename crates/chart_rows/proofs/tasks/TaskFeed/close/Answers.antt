use Rattle.std.proofs.Common.{◌≡◌, ◌∙◌, [], ◌∷◌, ◌++◌, ap, arith, false, length, subst, sym}
use Rattle.std.proofs.lemmas.List.{with_items_is}
use Rattle.trace_views.specs.Cells.{cell_away}
use Rattle.chart_cells.specs.Cells.{cell_shown}
use Rattle.chart_rows.specs.Rows.{task_put}
use Rattle.chart_rows.specs.RunCells.{IsOfLast, cells_of_runs, ends_of_runs}
use Rattle.chart_rows.proofs.tasks.TaskFeed.close.Goals as goal

pub returns-then-is_of_last : goal.returns-then-is_of_last
returns-then-is_of_last c = λ g.
    let kept = cell_shown c.self.inside.kept in
    let here : c.as_mut_slice.result.now ≡ c.self.inside.closed.items = c.as_mut_slice.ensures.value in
    let last : IsOfLast kept c.as_mut_slice.result.now = subst (IsOfLast kept) (c.as_slice.ensures.value ∙ sym here) (c.is_of_last.ensures c.if-is_of_last.true) in
    let long : length c.put_in_last.new.runs ≡ c.self.inside.closed.len = omega (arith, c.put_in_last.auto.runs, ap length here, c.self.inside.closed.ok.0) in
    let back = with_items_is c.self.inside.closed c.put_in_last.new.runs long in
    let cells = ap cells_of_runs back ∙ c.in_ok-put_in_last.ensures.cells kept last ∙ ap (λ rs. cells_of_runs rs ++ kept ∷ []) here in
    let ends = ap ends_of_runs back ∙ c.in_ok-put_in_last.ensures.ends ∙ ap (λ rs. ends_of_runs rs ++ c.self.inside.end ∷ []) here in
    c.clear.ensures g ∙ (λ i. record { task = c.self.inside.task.0; cells = cells i; ends = ends i; kept = cell_away g; end = false }) ∙ ap (task_put g) c.self.view_is

pub returns : goal.returns
returns c = λ g.
    let left = c.self-2.view_is ∙ c.take-cell.ensures.row g in
    (λ i. record {
      task = (left i).task;
      cells = (c.in_ok-put_new.ensures.cells ∙ (λ j. (left j).cells ++ c.take-cell.ensures.cell j ∷ [])) i;
      ends = (c.in_ok-put_new.ensures.ends ∙ (λ j. (left j).ends ++ (c.self.view_is j).end ∷ [])) i;
      kept = (left i).kept;
      end = (left i).end;
    })
