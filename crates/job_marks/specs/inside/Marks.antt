-- The marks of a job, from the times of its task.
use Rattle.std.specs.Prelude.{ℕ, ◌+◌, ◌-◌, ◌<◌, All, Bool, nat_le, nat_lt, List, length, map, slice_get, Option, None, Some, unwrap_or, if◌then◌else◌}
use Rattle.rt_base.specs.declared.TheConstants.{TICK_END}
use Rattle.rt_task.specs.declared.Task.{Task}
use Rattle.rt_rules.specs.Numbers.{numbers_from}
use Rattle.event_lines.specs.Tracks.{Due, JobMarks}
use Rattle.job_facts.specs.Rows.{listed_in, release_at}
use Rattle.job_marks.specs.Times.{Times}

-- the times of a task and its arrivals are within the limits
pub record IsEarly (t : Task) (arrivals : List ℕ) : Type 0 where
  pub phase_low : t.phase < TICK_END
  pub period_low : t.period < TICK_END
  pub deadline_low : t.rel_deadline < TICK_END
  pub arrivals_low : All (λ r. r < TICK_END) arrivals

-- a job with this end was not over by its deadline, at a clock
abbrev pub is_missed_by : Option ℕ → ℕ → ℕ → Bool
is_missed_by None deadline clock = nat_lt deadline clock
is_missed_by (Some ended) deadline clock = nat_lt deadline ended

abbrev pub due_by : Option ℕ → ℕ → ℕ → Option Due
due_by end deadline clock =
    if nat_le deadline clock then Some (record { tick = deadline; missed = is_missed_by end deadline clock }) else None

-- job k of a task with these times, at a clock
abbrev pub marks_by : Task → Times → ℕ → ℕ → JobMarks
marks_by task x clock k =
    let release : ℕ = unwrap_or (release_at task.kind task x.arrivals (k - 1)) 0 in
    let end : Option ℕ = slice_get x.ends (k - 1) in
    record {
      job = k;
      release = if nat_le release clock then Some release else None;
      deadline = due_by end (release + task.rel_deadline) clock;
      end = end;
    }

-- those of the jobs that are listed
abbrev pub all_marks_by : Task → Times → ℕ → List JobMarks
all_marks_by task x clock = map (marks_by task x clock) (numbers_from 1 (listed_in task x.arrivals (length x.ends) clock))
