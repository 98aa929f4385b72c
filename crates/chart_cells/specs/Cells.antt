-- Cells as the definitions have them.
use Rattle.std.specs.Prelude.{ℕ, List, flat_map, map}
use Rattle.rt_base.specs.TaskNos.{number_of_task}
use Rattle.rt_base.specs.declared.CpuNo.{CpuNo}
use Rattle.rt_base.specs.declared.SemNo.{SemNo}
use Rattle.trace_views.specs.Cells as views
use Rattle.trace_views.specs.Marks as views_marks
use Rattle.chart_texts.specs.Charts as charts
use Rattle.chart_cells.specs.declared.cells.Cell.{Cell}
use Rattle.chart_cells.specs.declared.cells.CpuCell.{CpuCell}
use Rattle.chart_cells.specs.declared.cells.Doing.{Doing}
use Rattle.chart_cells.specs.declared.cells.Doing.TheVariants.{Away, Blocked, Ready, Running, Sleeping, Waits, Works}
use Rattle.chart_cells.specs.declared.cells.Marks.{Marks}
use Rattle.chart_cells.specs.declared.cells.Playing.{Playing}
use Rattle.chart_cells.specs.declared.cells.Playing.TheVariants.{Idle, RunsTask, WorksFor}
use Rattle.chart_cells.specs.declared.cells.Run.{Run}

abbrev pub cpu_numbers : List CpuNo → List ℕ
cpu_numbers qs = map (λ (q : CpuNo). q.0) qs

abbrev pub sem_numbers : List SemNo → List ℕ
sem_numbers ss = map (λ (s : SemNo). s.0) ss

abbrev pub doing_shown : Doing → views.Doing
doing_shown (Works qs) = views.works (cpu_numbers qs.items)
doing_shown (Blocked s) = views.blocked s.0
doing_shown (Waits s) = views.waits s.0
doing_shown Sleeping = views.sleeping
doing_shown (Running qs) = views.running (cpu_numbers qs.items)
doing_shown Ready = views.ready
doing_shown Away = views.away

abbrev pub cell_shown : Cell → views.TaskCell
cell_shown c = record {
  doing = doing_shown c.doing;
  job = c.job;
  held = sem_numbers c.held.items;
  non_preemptive = c.non_preemptive;
  raised = c.raised;
}

abbrev pub marks_shown : Marks → views_marks.Marks
marks_shown m = record { release = m.release; deadline = m.deadline; missed = m.missed; end = m.end }

-- the columns of runs: each has the cell of its run, and marks of its own
abbrev pub column_shown : Cell → Marks → charts.Marked
column_shown c m = record { cell = cell_shown c; marks = marks_shown m }

abbrev pub run_shown : Run → List charts.Marked
run_shown r = map (column_shown r.cell) r.marks.items

abbrev pub runs_shown : List Run → List charts.Marked
runs_shown rs = flat_map run_shown rs

abbrev pub playing_shown : Playing → views.Playing
playing_shown (WorksFor t) = views.works_for t.0
playing_shown (RunsTask t) = views.runs_task t.0
playing_shown Idle = views.idle

abbrev pub cpu_cell_shown : CpuCell → views.CpuCell
cpu_cell_shown c = record { playing = playing_shown c.playing; link = number_of_task c.link }
