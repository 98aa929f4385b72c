-- The line of a task, from the lines of its jobs.
use Rattle.std.specs.Prelude.{ℕ, ◌+◌, ◌-◌, ◌/◌, nat_le, nat_lt, min, List, map, filter, filter_map, count_by, sum_by, ◌==◌}
use Rattle.std.specs.Prelude.{Option, None, Some, ℤ, ◌+ℤ◌, if◌then◌else◌}
use Rattle.rt_task.specs.declared.Kind.{Kind}
use Rattle.rt_task.specs.declared.Kind.TheVariants.{Periodic, Sporadic}
use Rattle.rt_task.specs.declared.Task.{Task}
use Rattle.rt_changes.specs.Tallies as seen
use Rattle.trace_views.specs.JobRows.{JobRow}
use Rattle.trace_views.specs.TaskRows.{TaskRow, greater, greatest, greatest_of, is_late, total, with_other}

-- what lines of jobs come to
pub record Sums : Type 0 where
  pub late : ℕ
  pub units : ℕ
  pub response_max : Option ℤ
  pub response_sum : Option ℤ
  pub lateness_max : Option ℤ
  pub preemptions : ℕ
  pub migrations : ℕ
  pub moves : ℕ
  pub requests : ℕ
  pub queued : ℕ

unfoldable pub sums_of : List JobRow → Sums
sums_of rows = record {
  late = count_by (λ (r : JobRow). is_late r.outcome) rows;
  units = sum_by (λ (r : JobRow). r.units) rows;
  response_max = greatest (filter_map (λ (r : JobRow). r.response) rows);
  response_sum = total (filter_map (λ (r : JobRow). r.response) rows);
  lateness_max = greatest (filter_map (λ (r : JobRow). r.lateness) rows);
  preemptions = sum_by (λ (r : JobRow). r.preemptions) rows;
  migrations = sum_by (λ (r : JobRow). r.migrations) rows;
  moves = sum_by (λ (r : JobRow). r.moves) rows;
  requests = sum_by (λ (r : JobRow). r.requests) rows;
  queued = sum_by (λ (r : JobRow). r.queued) rows;
}

abbrev pub no_sums : Sums
no_sums = record {
  late = 0;
  units = 0;
  response_max = None;
  response_sum = None;
  lateness_max = None;
  preemptions = 0;
  migrations = 0;
  moves = 0;
  requests = 0;
  queued = 0;
}

-- with one more line
abbrev pub with_number : (ℤ → ℤ → ℤ) → Option ℤ → Option ℤ → Option ℤ
with_number f o None = o
with_number f o (Some n) = with_other f o n

abbrev pub plus : ℤ → ℤ → ℤ
plus m n = m +ℤ n

abbrev pub added : JobRow → Sums → Sums
added r s = record {
  late = if is_late r.outcome then s.late + 1 else s.late;
  units = s.units + r.units;
  response_max = with_number greater s.response_max r.response;
  response_sum = with_number plus s.response_sum r.response;
  lateness_max = with_number greater s.lateness_max r.lateness;
  preemptions = s.preemptions + r.preemptions;
  migrations = s.migrations + r.migrations;
  moves = s.moves + r.moves;
  requests = s.requests + r.requests;
  queued = s.queued + r.queued;
}

-- how many jobs of a task with these arrivals are released by a clock, and how many have their deadline before it
abbrev pub released_in : Kind → Task → List ℕ → ℕ → ℕ
released_in Periodic t arrivals clock = if nat_le t.phase clock then (clock - t.phase) / t.period + 1 else 0
released_in Sporadic t arrivals clock = count_by (λ r. nat_le r clock) arrivals

abbrev pub due_in : Task → List ℕ → ℕ → ℕ
due_in t arrivals clock =
    if nat_lt t.rel_deadline clock then released_in t.kind t arrivals (min (clock - (t.rel_deadline + 1)) clock) else 0

-- the greatest counts of a task's requests
abbrev pub most_ends : ℕ → List seen.Tally → ℕ
most_ends t requests = greatest_of (map (λ (x : seen.Tally). x.ends) (filter (λ (x : seen.Tally). x.task == t) requests))

abbrev pub most_ends_all : ℕ → List seen.Tally → ℕ
most_ends_all t requests = greatest_of (map (λ (x : seen.Tally). x.ends_all) (filter (λ (x : seen.Tally). x.task == t) requests))

-- the line of a task of which so many jobs have ended, at a clock
abbrev pub task_row_from : Task → List ℕ → List seen.Tally → ℕ → ℕ → ℕ → Sums → TaskRow
task_row_from task arrivals requests clock t ended s = record {
  task = t;
  released = released_in task.kind task arrivals clock;
  ended = ended;
  late = s.late;
  missed = due_in task arrivals clock - ended;
  units = s.units;
  response_max = s.response_max;
  response_sum = s.response_sum;
  lateness_max = s.lateness_max;
  preemptions = s.preemptions;
  migrations = s.migrations;
  moves = s.moves;
  requests = s.requests;
  queued = s.queued;
  ends_max = most_ends t requests;
  ends_all_max = most_ends_all t requests;
}
