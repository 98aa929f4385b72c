-- The law of cells that are kept: they follow the states and acts of a column, and in the end are its cells.
use Rattle.std.specs.Prelude.{◌≡◌, ℕ, ◌∷◌, ◌&&◌, true, false}
use Rattle.rt_rules.specs.Numbers.{is}
use Rattle.rt_model.specs.Group.{Group}
use Rattle.rt_model.specs.Past.{Past}
use Rattle.trace_views.specs.Cells.{cell_at, running_on, task_cell}
use Rattle.trace_views.specs.Cells as cells
use Rattle.trace_views.specs.Columns.{Column}
use Rattle.trace_views.specs.Moments.{Moment, is_unit}
use Rattle.chart_cells.specs.Kept.{finished, kept_cell, later, state_cell, with_unit}

-- a column with one state, or one act, more
abbrev pub with_state : Past → Column → Column
with_state x c = record c { states = x ∷ c.states }

abbrev pub with_act : Moment → Column → Column
with_act m c = record c { acts = m ∷ c.acts }

pub record FollowsColumn (g : Group) (t : ℕ) (c : Column) : Type 0 where
  pub states : (x : Past) → kept_cell g t (with_state x c) ≡ later (kept_cell g t c) (state_cell g t x)
  pub units : (m : Moment) → is_unit m && is t m.act.task ≡ true
      → kept_cell g t (with_act m c) ≡ with_unit m.act.cpu (cell_at g cells.ready t m.before) (kept_cell g t c)
  pub others : (m : Moment) → is_unit m && is t m.act.task ≡ false → kept_cell g t (with_act m c) ≡ kept_cell g t c
  pub ends : task_cell g t c ≡ finished (running_on g t c) (kept_cell g t c)

-- A kept cell changes by each state and each unit of the column alone, and finished it is the task's cell.
abbrev pub KeptCellsFollow : Type 0
KeptCellsFollow = (g : Group) (t : ℕ) (c : Column) → FollowsColumn g t c
