use Rattle.std.proofs.Common.{◌≡◌, ◌+◌, ◌++◌, drop, map, take, length}
use Rattle.chart_cells.specs.Cells.{runs_shown}
use Rattle.chart_rows.specs.RunCells.{cells_of_runs, ends_of_runs}
use Rattle.chart_feed.specs.inside.Counts.{IsCounted}
use Rattle.chart_feed.specs.inside.Marked.{edges_shown, marked_in}
use Rattle.chart_feed.proofs.marking.set_marks.Given as goal

-- those so far have their marks, and those of the rest are all of them
abbrev pub invariant-loop-i : goal.invariant-loop-i
invariant-loop-i l =
    let marked = marked_in l.task l.arrivals l.ends l.now in
    record {
      counted : IsCounted l.task l.arrivals l.now l.counted;
      size : l.at + length (cells_of_runs (drop l.i l.runs)) ≡ length l.edges;
      marked : runs_shown (take l.i l.runs) ++ marked (cells_of_runs (drop l.i l.runs)) (ends_of_runs (drop l.i l.runs)) (map edges_shown (drop l.at l.edges)) ≡ marked (cells_of_runs l.fn.runs) (ends_of_runs l.fn.runs) (map edges_shown l.edges);
    }
