use Rattle.std.proofs.Common.{◌≡◌, ◌≤◌, ◌++◌, drop, map, take, length}
use Rattle.chart_cells.specs.Cells.{cell_shown, column_shown}
use Rattle.chart_cells.specs.declared.cells.Cell.{Cell}
use Rattle.chart_cells.specs.declared.cells.Marks.{Marks}
use Rattle.chart_feed.specs.inside.Counts.{IsCounted}
use Rattle.chart_feed.specs.inside.Marked.{edges_shown, marked_in}
use Rattle.chart_feed.proofs.marking.mark_columns.Given as goal

-- those so far have their marks, and those of the rest are all of them
abbrev pub invariant-loop-i : goal.invariant-loop-i
invariant-loop-i l =
    let marked = marked_in l.task l.arrivals l.ends l.now in
    record {
      counted : IsCounted l.task l.arrivals l.now l.counted;
      size : length l.columns ≤ length l.edges;
      marked : (c : Cell) → map (column_shown c) (take l.i l.columns) ++ marked (map (λ (m : Marks). cell_shown c) (drop l.i l.columns)) (map (λ (m : Marks). m.end) (drop l.i l.columns)) (map edges_shown (drop l.i l.edges)) ≡ marked (map (λ (m : Marks). cell_shown c) l.fn.columns) (map (λ (m : Marks). m.end) l.fn.columns) (map edges_shown l.edges);
    }
