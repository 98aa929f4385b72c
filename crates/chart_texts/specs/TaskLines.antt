-- The lines of a task: its marks, what it does, and where it declares a semaphore what it holds.
use Rattle.std.specs.Prelude.{ℕ, Bool, List, [], ◌∷◌, ◌++◌, flat_map, codes, if◌then◌else◌}
use Rattle.trace_views.specs.Cells.{Doing}
use Rattle.trace_views.specs.Cells as cells
use Rattle.trace_views.specs.Marks.{Marks}
use Rattle.chart_texts.specs.Charts.{Marked, TaskRow}
use Rattle.chart_texts.specs.Letters.{number_letter, sem_letter, task_letter}
use Rattle.chart_texts.specs.Rows.{row}

-- over the task a release at the start of a column, and a deadline at its end, missed or not
abbrev pub deadline_sign : Marks → ℕ
deadline_sign m = if m.missed then 33 else (if m.deadline then 118 else 32)

abbrev pub mark_signs : Marked → List ℕ
mark_signs c = (if c.marks.release then 94 else 32) ∷ deadline_sign c.marks ∷ []

-- work has the first of its processors
abbrev pub work_sign : List ℕ → ℕ
work_sign [] = 32
work_sign (q ∷ qs) = number_letter q

abbrev pub doing_sign : Doing → ℕ
doing_sign (cells.works qs) = work_sign qs
doing_sign (cells.running qs) = 61
doing_sign (cells.waits s) = 119
doing_sign (cells.blocked s) = 87
doing_sign cells.sleeping = 122
doing_sign cells.ready = 46
doing_sign cells.away = 32

-- and at the end of the column the end of a job
abbrev pub cell_signs : Marked → List ℕ
cell_signs c = doing_sign c.cell.doing ∷ (if c.marks.end then 124 else 32) ∷ []

-- the one semaphore that is held, or a plus for more
abbrev pub held_sign : List ℕ → ℕ
held_sign [] = 32
held_sign (s ∷ []) = sem_letter s
held_sign (s ∷ r ∷ ss) = 43

abbrev pub held_signs : Marked → List ℕ
held_signs c = held_sign c.cell.held ∷ 32 ∷ []

abbrev pub task_label : List ℕ → ℕ → List ℕ
task_label name t = task_letter t ∷ 32 ∷ name

-- the task has a name, and declares a semaphore or none
unfoldable pub task_lines : List ℕ → Bool → ℕ → TaskRow → List ℕ
task_lines name declares width r =
    row width [] (flat_map mark_signs r.cells)
    ++ (row width (task_label name r.task) (flat_map cell_signs r.cells)
    ++ (if declares then row width (codes "  holds") (flat_map held_signs r.cells) else []))
