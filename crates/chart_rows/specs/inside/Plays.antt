-- What processors do in a column that is over, as the definitions have it.
use Rattle.std.specs.Prelude.{ℕ, Option, None, Some}
use Rattle.trace_views.specs.Cells.{Playing}
use Rattle.trace_views.specs.Cells as cells
use Rattle.chart_cells.specs.Cells.{playing_shown}
use Rattle.chart_rows.specs.Rows as rows
use Rattle.chart_rows.specs.declared.loops.Played.{Played}

abbrev pub played_shown : Played → rows.Played
played_shown p = record { cpu = p.cpu.0; playing = playing_shown p.playing }

-- the task that is run without a unit
abbrev pub idly_run : Playing → Option ℕ
idly_run (cells.runs_task t) = Some t
idly_run _ = None
