use Rattle.std.proofs.Common.{◌∙◌, ◌-◌, ◌<◌, ap, arith, get_or, length, sym}
use Rattle.std.proofs.lemmas.List.{get_or_read}
use Rattle.chart_cells.specs.Cells.{cell_shown}
use Rattle.chart_cells.specs.declared.cells.Run.{Run}
use Rattle.chart_cells.proofs.Sameness.{cell-tells}
use Rattle.chart_rows.proofs.runs.is_of_last.Goals as goal

pub returns-then-count-gt0 : goal.returns-then-count-gt0
returns-then-count-gt0 c = λ same.
    let i = length c.args.runs.now - 1 in
    let low : i < length c.args.runs.now = omega arith in
    let seen = c.index-runs-count.is in
    record {
      some = omega arith;
      cell_is = λ d.
          ap (λ (r : Run). cell_shown r.cell) (sym (get_or_read _ _ _ low seen d) ∙ seen)
          ∙ cell-tells (cell_shown (get_or c.args.runs.now i c.index-runs-count.result).cell) (cell_shown c.args.cell.now) (sym c.same_cell.ensures ∙ same);
    }
