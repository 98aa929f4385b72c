-- The lines of a processor, what it plays and its link, and of a reservation, what is left of its budget.
use Rattle.std.specs.Prelude.{ℕ, List, [], ◌∷◌, ◌++◌, flat_map, Option, None, Some, codes, decimal}
use Rattle.trace_views.specs.Cells.{CpuCell, Playing}
use Rattle.trace_views.specs.Cells as cells
use Rattle.chart_texts.specs.Charts.{CpuRow, ResvRow}
use Rattle.chart_texts.specs.Letters.{number_letter, task_letter}
use Rattle.chart_texts.specs.Rows.{row}

abbrev pub playing_signs : Playing → List ℕ
playing_signs (cells.works_for t) = task_letter t ∷ 32 ∷ []
playing_signs (cells.runs_task t) = task_letter t ∷ 61 ∷ []
playing_signs cells.idle = 32 ∷ 32 ∷ []

abbrev pub link_sign : Option ℕ → ℕ
link_sign None = 32
link_sign (Some t) = task_letter t

abbrev pub cpu_signs : CpuCell → List ℕ
cpu_signs c = playing_signs c.playing

abbrev pub link_signs : CpuCell → List ℕ
link_signs c = link_sign c.link ∷ 32 ∷ []

abbrev pub budget_signs : ℕ → List ℕ
budget_signs left = number_letter left ∷ 32 ∷ []

abbrev pub cpu_label : ℕ → List ℕ
cpu_label q = codes "processor " ++ decimal q

unfoldable pub cpu_lines : ℕ → CpuRow → List ℕ
cpu_lines width r = row width (cpu_label r.cpu) (flat_map cpu_signs r.cells) ++ row width (codes "  link") (flat_map link_signs r.cells)

unfoldable pub resv_line : List ℕ → ℕ → ResvRow → List ℕ
resv_line name width r = row width name (flat_map budget_signs r.left)
