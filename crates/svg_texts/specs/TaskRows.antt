-- The row of a task, 52 pixels high: its name, its lanes, its line, and its marks.
use Rattle.std.specs.Prelude.{ℕ, suc, ◌+◌, ◌-◌, ◌*◌, List, [], ◌∷◌, ◌++◌, codes, decimal, if◌then◌else◌}
use Rattle.rt_task.specs.declared.Parts.{Parts}
use Rattle.trace_views.specs.Marks.{Marks}
use Rattle.chart_texts.specs.Charts.{Marked, TaskRow}
use Rattle.svg_texts.specs.Elements.{task_at}
use Rattle.svg_texts.specs.Shapes.{deadline, end, line, release, words}
use Rattle.svg_texts.specs.TaskLanes.{task_lanes}

-- the marks of a column that begins at x, on a line at y
unfoldable pub draw_marks : ℕ → ℕ → Marks → List ℕ
draw_marks x y m =
    (if m.release then release x y else [])
    ++ ((if m.deadline then deadline (if m.missed then codes "M" else codes "d") (x + 20) y else [])
    ++ (if m.end then end (x + 20) y else []))

-- the marks of the columns from i on
unfoldable pub marks_from : ℕ → ℕ → ℕ → List Marked → List ℕ
marks_from edge y i [] = []
marks_from edge y i (c ∷ cs) = draw_marks (edge + 20 * i) y c.marks ++ marks_from edge y (suc i) cs

abbrev pub task_words : Parts → ℕ → List ℕ
task_words p t = decimal t ++ (32 ∷ (task_at p t).name)

module _ (p : Parts) (edge : ℕ) (n : ℕ) where
  unfoldable pub task_row : ℕ → TaskRow → List ℕ
  task_row y r =
      words (codes "e") (edge - 8) (y + 32) (task_words p r.task)
      ++ (task_lanes p edge r.task y r.cells
      ++ (line (codes "b") edge (y + 38) (20 * n) 0
      ++ marks_from edge (y + 38) 0 r.cells))

  -- the rows from number i on
  unfoldable pub task_rows : ℕ → ℕ → List TaskRow → List ℕ
  task_rows y i [] = []
  task_rows y i (r ∷ rs) = task_row (y + 52 * i) r ++ task_rows y (suc i) rs
