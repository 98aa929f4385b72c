-- What is made of the row of one task alone.
use Rattle.std.specs.Prelude.{ℕ, Option, if◌then◌else◌}
use Rattle.rt_rules.specs.Numbers.{is}
use Rattle.chart_rows.specs.Rows.{TaskKept}

-- the row is changed, if it is the task's
abbrev pub only : Option ℕ → (TaskKept → TaskKept) → TaskKept → TaskKept
only t f k = if is k.task t then f k else k
