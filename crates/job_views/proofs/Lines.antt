-- What is read off a table of a task and its jobs.
use Rattle.std.proofs.Common.{◌≡◌, ◌∙◌, [], ◌∷◌, ◌++◌, map, ℕ, ◌+◌, ◌-◌, ◌<◌, ◌≤◌, List, length, get_or, sym, ap, subst, arith}
use Rattle.std.specs.Prelude.{All}
use Rattle.std.proofs.lemmas.List.{length-map}
use Rattle.rt_base.specs.declared.TheConstants.{MOST_STEPS}
use Rattle.rt_task.specs.declared.Task.{Task}
use Rattle.rt_rules.specs.Numbers.{numbers_from}
use Rattle.rt_model.specs.Blocking.{requests}
use Rattle.rt_model.specs.Group.{Group}
use Rattle.rt_model.specs.Group as groups
use Rattle.rt_model.specs.Jobs.{done}
use Rattle.rt_model.specs.Past.{Past, now}
use Rattle.rt_model.specs.Releases.{arrivals}
use Rattle.rt_plays.specs.Limits.{IsTaskInLimits}
use Rattle.rt_plays.proofs.SetLimits.{sets_are_in_limits}
use Rattle.rt_changes.specs.Tallies.{tallies, tally}
use Rattle.block_counts.specs.declared.seen.Seen.{Seen}
use Rattle.block_counts.specs.SeenWords.{tallies_of, tally_of}
use Rattle.trace_views.specs.JobRows.{JobRow, job_row, listed, rows_of}
use Rattle.trace_views.specs.TaskRows.{task_row}
use Rattle.job_facts.specs.Sums.{Sums, added, sums_of, task_row_from}
use Rattle.job_facts.proofs.Jobs.{map-last}
use Rattle.job_facts.proofs.Periods.{period-positive}
use Rattle.job_facts.proofs.RowSums.{sums_are_kept}
use Rattle.job_facts.specs.RequestPositions.{request_positions}
use Rattle.job_facts.specs.Rows.{job_in, listed_in, row_from}
use Rattle.job_facts.specs.Tallies as facts
use Rattle.job_facts.specs.Tallies.{Jobs, jobs_at, tally_at}
use Rattle.job_facts.proofs.Few.{arrivals-kept, done-few, ended-kept, positions-kept, tallies_are_few}
use Rattle.job_facts.proofs.Rows.{placed, rows_are_kept}
use Rattle.job_views.specs.declared.table.JobTable.{JobTable}
use Rattle.job_views.specs.declared.task_jobs.TaskJobs.{TaskJobs}
use Rattle.job_views.specs.Tables.{IsLineOf, IsTableOf, IsTableWith}
use Rattle.job_views.specs.inside.Times.{IsEarly}
use Rattle.job_views.specs.Told as told
use Rattle.job_views.specs.Told.{jobs_of}
use Rattle.job_views.proofs.Updates.{jobs_in-at}

module _ (g : Group) (past : Past) (v : JobTable) (task : Task) (clock : ℕ) (is : IsTableOf g past v task clock) where
  abbrev t : ℕ
  t = task.number.0

  pub task-within : t < length v.tasks.items
  task-within = omega (arith, is.there, is.from_one)

  task-limits : IsTaskInLimits (t - 1 + 1) (length g.setup.clusters) task
  unfolding groups.task
  task-limits = subst (IsTaskInLimits (t - 1 + 1) (length g.setup.clusters)) (sym is.task_is) ((sets_are_in_limits g.setup is.valid).tasks_in (t - 1) (omega (arith, is.from_one, is.within)))

  module _ (x : TaskJobs) (here : x ≡ get_or v.tasks.items t x) where
    pub jobs-kept : jobs_of x ≡ jobs_at t past
    jobs-kept = ap jobs_of here ∙ sym (jobs_in-at v.tasks.items t x task-within) ∙ is.kept.tasks_are t task-within

    pub task-early : IsEarly task x.arrivals.items
    task-early = record { phase_low = task-limits.phase_low; period_low = task-limits.period_low; deadline_low = task-limits.deadline_low; arrivals_low = x.arrivals_in_time }

    pub ended-length : length x.ended.items ≡ done t past
    ended-length = sym (length-map x.ended.items told.tally_of) ∙ ap (λ (r : Jobs). length r.ended) jobs-kept ∙ ended-kept t past

    pub arrivals-same : x.arrivals.items ≡ arrivals t past
    arrivals-same = ap (λ (r : Jobs). r.arrivals) jobs-kept ∙ arrivals-kept t past

    pub ended-low : length x.ended.items ≤ MOST_STEPS
    ended-low = omega (arith, ended-length, done-few t past, is.few)

    pub listed-is : listed_in task x.arrivals.items (length x.ended.items) clock ≡ listed g t past
    listed-is =
        ap (λ n. listed_in task x.arrivals.items n clock) ended-length ∙ ap (λ rs. listed_in task rs (done t past) clock) arrivals-same ∙ ap (listed_in task (arrivals t past) (done t past)) is.clock_is
        ∙ ap (λ (k : Task). listed_in k (arrivals t past) (done t past) (now past)) is.task_is ∙ sym (rows_are_kept.listed g t past)

module _ (g : Group) (past : Past) (v : JobTable) (task : Task) (clock job : ℕ) (rs : List Seen) (is : IsLineOf g past v task clock job rs) (x : TaskJobs) (here : x ≡ get_or v.tasks.items task.number.0 x) where
  abbrev number : ℕ
  number = task.number.0

  abbrev kept-of : jobs_of x ≡ jobs_at number past
  kept-of = jobs-kept g past v task clock is.with_requests.table x here

  job-kept : job_in (jobs_of x) job ≡ tally_at number job past
  job-kept = ap (λ r. job_in r job) kept-of ∙ rows_are_kept.current number job past is.first is.begun

  pub job-few : job ≤ MOST_STEPS + 1
  job-few = omega (arith, is.begun, done-few number past, is.with_requests.table.few)

  pub positions-low : length (job_in (jobs_of x) job).requests ≤ MOST_STEPS
  positions-low = omega (arith, ap (λ (y : facts.Tally). length y.requests) job-kept, (tallies_are_few number job past).requests_few, is.with_requests.table.few)

  pub positions-there : All (λ i. i < length rs) (job_in (jobs_of x) job).requests
  positions-there =
      let many : length rs ≡ length (requests past) = sym (length-map rs tally_of) ∙ ap length is.with_requests.requests_are ∙ length-map (requests past) (tally g past) in
      let same : (job_in (jobs_of x) job).requests ≡ request_positions number job past = ap (λ (y : facts.Tally). y.requests) job-kept ∙ positions-kept number job past in
      subst (λ is'. All (λ i. i < length rs) is') (sym same) (subst (λ n. All (λ i. i < n) (request_positions number job past)) (sym many) (placed number job past))

  pub row-is : row_from task x.arrivals.items (tallies_of rs) clock number job (job_in (jobs_of x) job) ≡ job_row g number past job
  row-is =
      ap (row_from task x.arrivals.items (tallies_of rs) clock number job) job-kept
      ∙ ap (λ cs. row_from task cs (tallies_of rs) clock number job (tally_at number job past)) (arrivals-same g past v task clock is.with_requests.table x here)
      ∙ ap (λ ss. row_from task (arrivals number past) ss clock number job (tally_at number job past)) is.with_requests.requests_are
      ∙ ap (λ n. row_from task (arrivals number past) (tallies g past) n number job (tally_at number job past)) is.with_requests.table.clock_is
      ∙ ap (λ (k : Task). row_from k (arrivals number past) (tallies g past) (now past) number job (tally_at number job past)) is.with_requests.table.task_is
      ∙ sym (rows_are_kept.read g number job past)

-- ---- the line of a task

module _ (g : Group) (past : Past) (v : JobTable) (task : Task) (clock : ℕ) (rs : List Seen) (is : IsTableWith g past v task clock rs) where
  pub task-period : 0 < task.period
  unfolding groups.task
  task-period =
      subst (λ (k : Task). 0 < k.period) (sym is.table.task_is) (period-positive g.setup is.table.valid (task.number.0 - 1) (omega (arith, is.table.from_one, is.table.within)))

  pub line-of : (job : ℕ) → 1 ≤ job → job ≤ done task.number.0 past + 1 → IsLineOf g past v task clock job rs
  line-of job low high = record { with_requests = is; first = low; begun = high }

  pub jobs-few : (jobs : ℕ) → jobs ≤ done task.number.0 past + 1 → jobs ≤ MOST_STEPS + 1
  jobs-few jobs h = omega (arith, h, done-few task.number.0 past, is.table.few)

  -- what is added up is the line of the task
  pub task_row-is : (x : TaskJobs) → x ≡ get_or v.tasks.items task.number.0 x → (s : Sums) → s ≡ sums_of (map (job_row g task.number.0 past) (numbers_from 1 (listed g task.number.0 past)))
      → task_row_from task x.arrivals.items (tallies_of rs) clock task.number.0 (length x.ended.items) s ≡ task_row g past task.number.0
  unfolding rows_of
  task_row-is x here s sums =
      let t : ℕ = task.number.0 in
      let rows : Sums = sums_of (rows_of g t past) in
      ap (task_row_from task x.arrivals.items (tallies_of rs) clock t (length x.ended.items)) sums
      ∙ ap (λ n. task_row_from task x.arrivals.items (tallies_of rs) clock t n rows) (ended-length g past v task clock is.table x here)
      ∙ ap (λ cs. task_row_from task cs (tallies_of rs) clock t (done t past) rows) (arrivals-same g past v task clock is.table x here)
      ∙ ap (λ ss. task_row_from task (arrivals t past) ss clock t (done t past) rows) is.requests_are
      ∙ ap (λ n. task_row_from task (arrivals t past) (tallies g past) n t (done t past) rows) is.table.clock_is
      ∙ ap (λ (k : Task). task_row_from k (arrivals t past) (tallies g past) (now past) t (done t past) rows) is.table.task_is
      ∙ sym (sums_are_kept.read g t past)

-- with one more line
pub sums-next : (g : Group) (t : ℕ) (past : Past) (i : ℕ) (old new : Sums) (r : JobRow) → new ≡ added r old → r ≡ job_row g t past (i + 1) → old ≡ sums_of (map (job_row g t past) (numbers_from 1 i))
    → new ≡ sums_of (map (job_row g t past) (numbers_from 1 (i + 1)))
sums-next g t past i old new r more row before =
    let line : ℕ → JobRow = job_row g t past in
    let rows : List JobRow = map line (numbers_from 1 i) in
    let at : 1 + i ≡ i + 1 = omega arith in
    more ∙ ap (λ x. added x old) row ∙ ap (added (line (i + 1))) before ∙ sym (sums_are_kept.added_up rows (line (i + 1)))
    ∙ sym (ap sums_of (map-last line 1 i ∙ ap (λ n. rows ++ line n ∷ []) at))
