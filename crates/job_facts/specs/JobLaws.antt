-- The laws by which what is kept of jobs is kept, move by move.
use Rattle.std.specs.Prelude.{◌≡◌, ℕ, ◌+◌, ◌<◌, ◌≤◌, All, List, [], ◌∷◌, ◌++◌, length}
use Rattle.rt_task.specs.declared.Act.{Act}
use Rattle.rt_changes.specs.Tallies.{tallies}
use Rattle.rt_model.specs.Blocking.{requests}
use Rattle.rt_model.specs.Group.{Group, task}
use Rattle.rt_model.specs.Jobs.{done}
use Rattle.rt_model.specs.Outcomes.{past_act}
use Rattle.rt_model.specs.Past.{Acted, Clock, Past, entries_in, now}
use Rattle.rt_model.specs.Reachable.{IsReachable}
use Rattle.rt_model.specs.Releases.{arrivals}
use Rattle.trace_views.specs.JobRows.{JobRow, job_row, listed, rows_of}
use Rattle.trace_views.specs.TaskRows.{task_row}
use Rattle.job_facts.specs.Deeds.{jobs_fed}
use Rattle.job_facts.specs.Kept.{IsFew, scene_at}
use Rattle.job_facts.specs.RequestPositions.{request_positions}
use Rattle.job_facts.specs.Rows.{job_in, listed_in, row_from}
use Rattle.job_facts.specs.Sums.{added, sums_of, task_row_from}
use Rattle.job_facts.specs.Tallies.{jobs_at, no_jobs, tally_at}

-- At opening nothing is kept, a move of the clock changes nothing, and an act changes what its deeds are.
pub record JobsAreKept : Type 0 where
  pub opening : (t : ℕ) → jobs_at t [] ≡ no_jobs
  pub clocked : (t tick : ℕ) (past : Past) → jobs_at t (Clock tick ∷ past) ≡ jobs_at t past
  pub acted : (g : Group) (q : ℕ) (act : Act) (t : ℕ) (past : Past) → IsReachable g past
      → jobs_at t (Acted (past_act g q act past) ∷ past) ≡ jobs_fed (scene_at q past) t (past_act g q act past) (jobs_at t past)

-- No count of a job is above the number of entries.
abbrev pub TalliesAreFew : Type 0
TalliesAreFew = (t k : ℕ) (past : Past) → IsFew (entries_in past) (tally_at t k past)

-- The line of a job is read off what is kept of it, and off its task's arrivals and the requests, and so is how many are listed; the
-- positions of a job's requests are among these.
pub record RowsAreKept : Type 0 where
  pub read : (g : Group) (t k : ℕ) (past : Past)
      → job_row g t past k ≡ row_from (task g t) (arrivals t past) (tallies g past) (now past) t k (tally_at t k past)
  pub listed : (g : Group) (t : ℕ) (past : Past) → listed g t past ≡ listed_in (task g t) (arrivals t past) (done t past) (now past)
  pub current : (t k : ℕ) (past : Past) → 1 ≤ k → k ≤ done t past + 1 → job_in (jobs_at t past) k ≡ tally_at t k past
  pub placed : (t k : ℕ) (past : Past) → All (λ i. i < length (requests past)) (request_positions t k past)

-- The line of a task is read off what the lines of its jobs come to, which is added up line by line.
pub record SumsAreKept : Type 0 where
  pub read : (g : Group) (t : ℕ) (past : Past)
      → task_row g past t ≡ task_row_from (task g t) (arrivals t past) (tallies g past) (now past) t (done t past)
      (sums_of (rows_of g t past))
  pub added_up : (rows : List JobRow) (r : JobRow) → sums_of (rows ++ r ∷ []) ≡ added r (sums_of rows)
