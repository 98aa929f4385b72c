-- Lines of the table of tasks, as the definitions have them.
use Rattle.trace_views.specs.TaskRows as views
use Rattle.job_views.specs.declared.task_row.TaskRow.{TaskRow}

abbrev pub task_row_shown : TaskRow → views.TaskRow
task_row_shown r = record {
  task = r.task.0;
  released = r.released;
  ended = r.ended;
  late = r.late;
  missed = r.missed;
  units = r.units;
  response_max = r.response_max;
  response_sum = r.response_sum;
  lateness_max = r.lateness_max;
  preemptions = r.preemptions;
  migrations = r.migrations;
  moves = r.moves;
  requests = r.requests;
  queued = r.queued;
  ends_max = r.ends_max;
  ends_all_max = r.ends_all_max;
}
