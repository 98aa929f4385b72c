-- The table of tasks of a group: of each what its lines in the table of jobs come to.
use Rattle.std.specs.Prelude.{ℕ, ◌-◌, Bool, true, false, List, map, max, sum_by, count_by, fold}
use Rattle.std.specs.Prelude.{filter_map, if◌then◌else◌, Option, None, Some, ℤ, ◌+ℤ◌, int_lt, filter, ◌==◌}
use Rattle.rt_model.specs.Blocking.{Asked, requests, ends, ends_all}
use Rattle.rt_model.specs.Group.{Group, tasks}
use Rattle.rt_model.specs.Jobs.{done}
use Rattle.rt_model.specs.Past.{Past, now}
use Rattle.trace_views.specs.Due.{released_by, due_before}
use Rattle.trace_views.specs.JobTimes as times
use Rattle.trace_views.specs.JobTimes.{Outcome}
use Rattle.trace_views.specs.JobRows.{JobRow, rows_of}

-- a line; what no job has come to is missing
pub record TaskRow : Type 0 where
  pub task : ℕ
  pub released : ℕ
  pub ended : ℕ
  pub late : ℕ
  pub missed : ℕ
  pub units : ℕ
  pub response_max : Option ℤ
  pub response_sum : Option ℤ
  pub lateness_max : Option ℤ
  pub preemptions : ℕ
  pub migrations : ℕ
  pub moves : ℕ
  pub requests : ℕ
  pub queued : ℕ
  pub ends_max : ℕ
  pub ends_all_max : ℕ

abbrev pub is_late : Outcome → Bool
is_late times.late = true
is_late _ = false

-- two of some numbers together, where each may be missing
abbrev pub with_other : (ℤ → ℤ → ℤ) → Option ℤ → ℤ → Option ℤ
with_other f None n = Some n
with_other f (Some m) n = Some (f m n)

abbrev pub greater : ℤ → ℤ → ℤ
greater m n = if int_lt m n then n else m

abbrev pub greatest : List ℤ → Option ℤ
greatest ns = fold (with_other greater) None ns

abbrev pub total : List ℤ → Option ℤ
total ns = fold (with_other (λ m n. m +ℤ n)) None ns

abbrev pub greatest_of : List ℕ → ℕ
greatest_of ns = fold max 0 ns

module _ (g : Group) where
  -- the requests of a task
  unfoldable pub asked : ℕ → Past → List Asked
  asked t past = filter (λ (r : Asked). r.task == t) (requests past)

  unfoldable pub task_row : Past → ℕ → TaskRow
  task_row past t =
      let rows = rows_of g t past in
      record {
        task = t;
        released = released_by g t (now past) past;
        ended = done t past;
        late = count_by (λ (r : JobRow). is_late r.outcome) rows;
        missed = due_before g t (now past) past - done t past;
        units = sum_by (λ (r : JobRow). r.units) rows;
        response_max = greatest (filter_map (λ (r : JobRow). r.response) rows);
        response_sum = total (filter_map (λ (r : JobRow). r.response) rows);
        lateness_max = greatest (filter_map (λ (r : JobRow). r.lateness) rows);
        preemptions = sum_by (λ (r : JobRow). r.preemptions) rows;
        migrations = sum_by (λ (r : JobRow). r.migrations) rows;
        moves = sum_by (λ (r : JobRow). r.moves) rows;
        requests = sum_by (λ (r : JobRow). r.requests) rows;
        queued = sum_by (λ (r : JobRow). r.queued) rows;
        ends_max = greatest_of (map (λ (r : Asked). ends g r.no r.task r.sem past) (asked t past));
        ends_all_max = greatest_of (map (λ (r : Asked). ends_all g r.no r.task r.sem past) (asked t past));
      }

  unfoldable pub task_rows : Past → List TaskRow
  task_rows past = map (task_row past) (tasks g)
