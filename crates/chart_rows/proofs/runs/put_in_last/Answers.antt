use Rattle.std.proofs.Common.{◌≡◌, ◌-◌, suc, ◌∷◌, [], arith, get_or, length, refl}
use Rattle.chart_cells.specs.Cells.{cell_shown}
use Rattle.chart_cells.specs.declared.cells.Marks.{Marks}
use Rattle.chart_rows.specs.RunCells.{cells_of_run, ends_of_run}
use Rattle.chart_rows.proofs.RunLaws.{last-longer, map-more}
use Rattle.chart_rows.proofs.runs.put_in_last.Goals as goal

pub returns-clause-cells : goal.returns-clause-cells
returns-clause-cells c = λ x last.
    let i = length c.args.runs.now - 1 in
    let d = c.index-runs-last.result in
    let r = get_or c.args.runs.now i d in
    let behind : suc i ≡ length c.args.runs.now = omega arith in
    last-longer cells_of_run c.args.runs.now i d r _ (x ∷ []) behind refl (map-more (λ (m : Marks). cell_shown r.cell) r.marks.items _ c.args.marks x c.in_ok-push.ensures.items (last.cell_is d))

pub returns-clause-ends : goal.returns-clause-ends
returns-clause-ends c =
    let i = length c.args.runs.now - 1 in
    let d = c.index-runs-last.result in
    let r = get_or c.args.runs.now i d in
    let behind : suc i ≡ length c.args.runs.now = omega arith in
    last-longer ends_of_run c.args.runs.now i d r _ (c.args.marks.end ∷ []) behind refl (map-more (λ (m : Marks). m.end) r.marks.items _ c.args.marks c.args.marks.end c.in_ok-push.ensures.items refl)
