-- What a state shows of a task, by what the task does in it.
use Rattle.std.specs.Prelude.{ℕ, Bool, true, false, Option, None, Some, if◌then◌else◌}
use Rattle.rt_model.specs.Group.{Group}
use Rattle.rt_model.specs.Holders.{awaits}
use Rattle.rt_model.specs.Past.{Past}
use Rattle.rt_model.specs.Releases.{exists}
use Rattle.rt_model.specs.Sleep.{sleeps}
use Rattle.trace_views.specs.Cells.{Doing, TaskCell, cell_at, cell_away, waiting}
use Rattle.trace_views.specs.Cells as cells

abbrev pub waiting_by : Bool → ℕ → Doing
waiting_by b s = if b then cells.blocked s else cells.waits s

abbrev pub there_by : Bool → Bool → Doing
there_by sleeping there = if sleeping then cells.sleeping else (if there then cells.ready else cells.away)

abbrev pub is_away : Doing → Bool
is_away cells.away = true
is_away _ = false

module _ (g : Group) (t : ℕ) where
  abbrev pub doing_by : Past → Option ℕ → Doing
  doing_by x (Some s) = waiting g t x (Some s)
  doing_by x None = there_by (sleeps t x) (exists g t x)

  abbrev pub state_doing : Past → Doing
  state_doing x = doing_by x (awaits g t x)

  abbrev pub cell_for : Doing → Past → TaskCell
  cell_for d x = if is_away d then cell_away g else cell_at g d t x
