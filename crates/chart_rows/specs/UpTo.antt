-- Rows that show no less than the newest state of their column does; and the tasks of which the state after an act may show more.
use Rattle.std.specs.Prelude.{ℕ, ◌≤◌, Bool, ◌||◌, All}
use Rattle.rt_rules.specs.Numbers.{is}
use Rattle.rt_model.specs.Group.{Group}
use Rattle.rt_model.specs.Past.{Past, PastAct}
use Rattle.rt_changes.specs.Touched.{arriving}
use Rattle.chart_cells.specs.Kept.{rank}
use Rattle.chart_rows.specs.Looks.{state_doing}
use Rattle.chart_rows.specs.Rows.{RowsKept, TaskKept}

-- the one that its processor ran, and the one that arrives
abbrev pub touches : PastAct → ℕ → Bool
touches d t = is t d.task || is t (arriving d.act)

module _ (g : Group) (past : Past) where
  abbrev pub IsUpTo : TaskKept → Type 0
  IsUpTo k = rank (state_doing g k.task past) ≤ rank k.kept.doing

  abbrev pub AreUpTo : RowsKept → Type 0
  AreUpTo v = All IsUpTo v.tasks
