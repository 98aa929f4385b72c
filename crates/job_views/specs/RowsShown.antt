-- Lines of the table of jobs, as the definitions have them.
use Rattle.trace_views.specs.JobRows as views
use Rattle.trace_views.specs.JobTimes as times
use Rattle.job_views.specs.declared.row.JobRow.{JobRow}
use Rattle.job_views.specs.declared.row.Outcome.{Outcome}
use Rattle.job_views.specs.declared.row.Outcome.TheVariants as outcomes

abbrev pub outcome_shown : Outcome → times.Outcome
outcome_shown outcomes.Kept = times.kept
outcome_shown outcomes.Late = times.late
outcome_shown outcomes.Missed = times.missed
outcome_shown outcomes.Open = times.under_way

abbrev pub row_shown : JobRow → views.JobRow
row_shown r = record {
  task = r.task.0;
  job = r.job;
  release = r.release;
  deadline = r.deadline;
  start = r.start;
  finish = r.finish;
  end = r.end;
  outcome = outcome_shown r.outcome;
  units = r.units;
  response = r.response;
  lateness = r.lateness;
  preemptions = r.preemptions;
  migrations = r.migrations;
  moves = r.moves;
  requests = r.requests;
  queued = r.queued;
  ends = r.ends;
  ends_all = r.ends_all;
}
