-- Cells with their marks.
use Rattle.std.specs.Prelude.{ℕ, Bool, List, [], ◌∷◌}
use Rattle.rt_task.specs.declared.Task.{Task}
use Rattle.trace_views.specs.Cells.{TaskCell}
use Rattle.chart_texts.specs.Charts as charts
use Rattle.chart_feed.specs.Times as times
use Rattle.chart_feed.specs.Times.{marks_in}
use Rattle.chart_feed.specs.declared.times.Edges.{Edges}

abbrev pub edges_shown : Edges → times.Edges
edges_shown e = record { first = e.first; high = e.high; next = e.next }

-- the cells of a task with these arrivals and ends of jobs, each with whether a job of it ended there, in columns with these clocks
abbrev pub marked_in : Task → List ℕ → List ℕ → ℕ → List TaskCell → List Bool → List times.Edges → List charts.Marked
marked_in task arrivals ends clock [] bs es = []
marked_in task arrivals ends clock (c ∷ cs) [] es = []
marked_in task arrivals ends clock (c ∷ cs) (b ∷ bs) [] = []
marked_in task arrivals ends clock (c ∷ cs) (b ∷ bs) (e ∷ es) =
    record { cell = c; marks = marks_in task arrivals ends clock e b } ∷ marked_in task arrivals ends clock cs bs es
