-- The line of a job, from what is kept of it.
use Rattle.std.specs.Prelude.{ℕ, ◌+◌, ◌-◌, ◌*◌, nat_lt, Bool, not, ◌&&◌, ◌||◌, List, length, slice_get, slice_index_or, sum_by}
use Rattle.std.specs.Prelude.{Option, None, Some, unwrap_or, if◌then◌else◌}
use Rattle.rt_task.specs.declared.Kind.{Kind}
use Rattle.rt_task.specs.declared.Kind.TheVariants.{Periodic, Sporadic}
use Rattle.rt_task.specs.declared.Task.{Task}
use Rattle.rt_changes.specs.Tallies as seen
use Rattle.rt_model.specs.Releases.{has_come}
use Rattle.trace_views.specs.JobRows.{JobRow}
use Rattle.trace_views.specs.JobTimes.{finish_by, outcome_by, time_to}
use Rattle.job_facts.specs.Tallies.{Jobs, Tally}

-- the release of the job behind so many others, of a task with these arrivals, where it is known
abbrev pub release_at : Kind → Task → List ℕ → ℕ → Option ℕ
release_at Periodic t arrivals before = Some (t.phase + before * t.period)
release_at Sporadic t arrivals before = slice_get arrivals before

-- whether the job behind so many that ended is there, at a clock
abbrev pub is_there : Task → List ℕ → ℕ → ℕ → Bool
is_there t arrivals ended clock =
    let come : Bool = has_come clock (release_at t.kind t arrivals ended) in
    come || (t.early && (nat_lt 0 ended && not come))

-- how many jobs are listed
abbrev pub listed_in : Task → List ℕ → ℕ → ℕ → ℕ
listed_in t arrivals ended clock = if is_there t arrivals ended clock then ended + 1 else ended

-- job k of those that are kept
abbrev pub job_in : Jobs → ℕ → Tally
job_in r k = slice_index_or r.ended (k - 1) r.current

-- what the requests in these positions saw end
abbrev pub no_request : seen.Tally
no_request = record { no = 0; task = 0; sem = 0; ends = 0; ends_all = 0; bound = None }

abbrev pub ends_in : List seen.Tally → List ℕ → ℕ
ends_in requests positions = sum_by (λ i. (slice_index_or requests i no_request).ends) positions

abbrev pub ends_all_in : List seen.Tally → List ℕ → ℕ
ends_all_in requests positions = sum_by (λ i. (slice_index_or requests i no_request).ends_all) positions

-- job k, at a clock
abbrev pub row_from : Task → List ℕ → List seen.Tally → ℕ → ℕ → ℕ → Tally → JobRow
row_from task arrivals requests clock t k x =
    let release : ℕ = unwrap_or (release_at task.kind task arrivals (k - 1)) 0 in
    let deadline : ℕ = release + task.rel_deadline in
    record {
      task = t;
      job = k;
      release = release;
      deadline = deadline;
      start = x.start;
      finish = finish_by x.unit x.end;
      end = x.end;
      outcome = outcome_by x.end deadline clock;
      units = x.units;
      response = time_to release (finish_by x.unit x.end);
      lateness = time_to deadline (finish_by x.unit x.end);
      preemptions = x.preemptions;
      migrations = x.migrations;
      moves = x.moves;
      requests = length x.requests;
      queued = x.queued;
      ends = ends_in requests x.requests;
      ends_all = ends_all_in requests x.requests;
    }
