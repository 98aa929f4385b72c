-- Columns that are over, run by run: the cell of each, and whether a job ended there.
use Rattle.std.specs.Prelude.{◌≡◌, ◌-◌, ◌<◌, Bool, List, flat_map, length, map, slice_index_or}
use Rattle.trace_views.specs.Cells.{TaskCell}
use Rattle.chart_cells.specs.Cells.{cell_shown}
use Rattle.chart_cells.specs.declared.cells.Marks.{Marks}
use Rattle.chart_cells.specs.declared.cells.Run.{Run}

abbrev pub cells_of_run : Run → List TaskCell
cells_of_run r = map (λ (m : Marks). cell_shown r.cell) r.marks.items

abbrev pub ends_of_run : Run → List Bool
ends_of_run r = map (λ (m : Marks). m.end) r.marks.items

abbrev pub cells_of_runs : List Run → List TaskCell
cells_of_runs rs = flat_map cells_of_run rs

abbrev pub ends_of_runs : List Run → List Bool
ends_of_runs rs = flat_map ends_of_run rs

-- the last run has this cell
pub record IsOfLast (c : TaskCell) (rs : List Run) : Type 0 where
  pub some : 0 < length rs
  pub cell_is : (d : Run) → cell_shown (slice_index_or rs (length rs - 1) d).cell ≡ c
