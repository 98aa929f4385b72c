-- The law of bars: the rows of tasks and those of processors say the same of who works where.
use Rattle.std.specs.Prelude.{◌≡◌, ℕ, Bool, false, ◌==◌, List, [], All}
use Rattle.rt_rules.specs.Numbers.{has}
use Rattle.rt_laws.specs.EveryPast.{EveryPast}
use Rattle.trace_views.specs.Cells.{Doing, Playing, cpu_cell, task_cell}
use Rattle.trace_views.specs.Cells as cells
use Rattle.chart_texts.specs.declared.window.Axis.{Axis}
use Rattle.chart_texts.specs.Windows.{columns_on}

-- the processors in a task's bar of work, and whether a processor's is for the task
abbrev pub full_bar : Doing → List ℕ
full_bar (cells.works qs) = qs
full_bar _ = []

abbrev pub works_for_task : ℕ → Playing → Bool
works_for_task t (cells.works_for u) = t == u
works_for_task t _ = false

-- In each column a processor stands in a task's bar of work exactly where the task stands in the processor's.
abbrev pub BarsAgree : Type 0
BarsAgree =
    EveryPast (λ g past. (axis : Axis) (q t : ℕ)
    → All (λ c. has q (full_bar (task_cell g t c).doing) ≡ works_for_task t (cpu_cell g q c).playing) (columns_on axis past))
