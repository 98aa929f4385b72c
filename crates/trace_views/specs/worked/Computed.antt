-- A proof that computes with what is shown says `unfolding shown`, beside `computed` of the definitions.
use Rattle.trace_views.specs.Moments.{moments, at_tick}
use Rattle.trace_views.specs.Columns.{tick_columns, entry_columns}
use Rattle.trace_views.specs.Cells.{cpu_cell, running_on, cell_at, task_cell, resv_cell}
use Rattle.trace_views.specs.JobMoves.{count_moves, first_clock, last_clock}
use Rattle.trace_views.specs.JobTimes.{release_of, deadline_of, start, end, last_unit, finish, outcome, response, lateness}
use Rattle.trace_views.specs.JobCounts.{units, preemptions, unit_cpus, migrations, last_cpu, moves, requests_of, requests_made}
use Rattle.trace_views.specs.JobCounts.{queued, ends_seen, ends_all_seen}
use Rattle.trace_views.specs.JobRows.{job_row, listed, rows_of, job_rows}
use Rattle.trace_views.specs.Due.{released_at, released_by, due_before}
use Rattle.trace_views.specs.Marks.{ended_by, marks}
use Rattle.trace_views.specs.TaskRows.{asked, task_row, task_rows}

unfoldable pub shown : Unit {0}
unfolding moments at_tick tick_columns entry_columns cpu_cell running_on cell_at task_cell resv_cell count_moves first_clock last_clock
    release_of deadline_of start end last_unit finish outcome response lateness units preemptions unit_cpus migrations last_cpu
    moves requests_of requests_made queued ends_seen ends_all_seen job_row listed rows_of job_rows released_at released_by
    due_before ended_by marks asked task_row task_rows
shown = tt
