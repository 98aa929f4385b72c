-- The position of a task's row among those of all.
use Rattle.std.specs.Prelude.{◌≡◌, ℕ, ◌<◌, ◌==◌, false, List, length, Option, None, Some, All, slice_index_or}
use Rattle.chart_rows.specs.Rows.{TaskKept}

-- the row in this position is the task's; where there is no position, no row is
abbrev pub IsPositionOf : ℕ → List TaskKept → Option ℕ → Type 0
IsPositionOf t ks None = All (λ (k : TaskKept). (k.task == t) ≡ false) ks
IsPositionOf t ks (Some i) = (i < length ks) × ((d : TaskKept) → (slice_index_or ks i d).task ≡ t)
