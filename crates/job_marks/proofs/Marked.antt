-- The marks of jobs are read off the times of their task.
use Rattle.std.proofs.Common.{◌≡◌, ◌∙◌, ℕ, ◌+◌, ◌-◌, ◌<◌, ◌≤◌, List, [], ◌∷◌, ◌++◌, length, map, get_or, sym, ap, subst, arith}
use Rattle.std.specs.Prelude.{nat_le, None, Some, slice_get, unwrap_or, if◌then◌else◌}
use Rattle.std.proofs.lemmas.List.{map-append}
use Rattle.rt_base.specs.declared.TheConstants.{MOST_STEPS}
use Rattle.rt_task.specs.declared.Task.{Task}
use Rattle.rt_rules.specs.Numbers.{numbers_from}
use Rattle.rt_model.specs.Group as groups
use Rattle.rt_model.specs.Group.{Group}
use Rattle.rt_model.specs.Past.{Past, now}
use Rattle.rt_model.specs.Releases.{arrivals}
use Rattle.rt_plays.specs.Limits.{IsTaskInLimits}
use Rattle.rt_plays.proofs.SetLimits.{sets_are_in_limits}
use Rattle.trace_views.specs.JobRows.{JobRow, job_row, listed}
use Rattle.trace_views.specs.JobTimes.{deadline_of, release_of}
use Rattle.event_lines.specs.declared.tracks.JobMarks as declared
use Rattle.event_lines.specs.Shown.{job_marks_shown}
use Rattle.event_lines.specs.Tracks.{JobMarks}
use Rattle.event_lines.specs.TracksOf.{deadline_mark, job_marks}
use Rattle.job_facts.specs.Rows.{listed_in, release_at}
use Rattle.job_facts.proofs.Few.{done-few}
use Rattle.job_facts.proofs.Jobs.{map-last, map-same}
use Rattle.job_facts.proofs.Rows.{rows_are_kept}
use Rattle.job_marks.specs.declared.job_times.JobTimes.{JobTimes}
use Rattle.job_marks.specs.declared.task_times.TaskTimes.{TaskTimes}
use Rattle.job_marks.specs.JobTimes.{IsTimesOf, times_of}
use Rattle.job_marks.specs.Times.{Times, end_clocks, times_at}
use Rattle.job_marks.specs.inside.Marks.{IsEarly, all_marks_by, due_by, marks_by}
use Rattle.job_marks.proofs.Ends.{end-kept, ends-counted}
use Rattle.job_marks.proofs.Missed.{missed-is}
use Rattle.job_marks.proofs.Updates.{times_in-at}

-- one more job
pub marks-next : (marks : ℕ → JobMarks) (i : ℕ) (mark : declared.JobMarks) (old new : List declared.JobMarks) → job_marks_shown mark ≡ marks (i + 1) → new ≡ old ++ mark ∷ []
    → map job_marks_shown old ≡ map marks (numbers_from 1 i) → map job_marks_shown new ≡ map marks (numbers_from 1 (i + 1))
marks-next marks i mark old new shown put before =
    let next : 1 + i ≡ i + 1 = omega arith in
    ap (map job_marks_shown) put ∙ map-append job_marks_shown old (mark ∷ []) ∙ (λ j. before j ++ shown j ∷ [])
    ∙ sym (map-last marks 1 i ∙ ap (λ n. map marks (numbers_from 1 i) ++ marks n ∷ []) next)

module _ (g : Group) (t : ℕ) (past : Past) where
  abbrev task : Task
  task = groups.task g t

  released : (k : ℕ) → unwrap_or (release_at task.kind task (arrivals t past) (k - 1)) 0 ≡ release_of g t k past
  unfolding job_row
  released k = sym (ap (λ (r : JobRow). r.release) (rows_are_kept.read g t k past))

  due-read : (k : ℕ) → 1 ≤ k → due_by (slice_get (end_clocks t past) (k - 1)) (unwrap_or (release_at task.kind task (arrivals t past) (k - 1)) 0 + task.rel_deadline) (now past) ≡ deadline_mark g t k past
  unfolding deadline_of
  due-read k one =
      (λ i. due_by (end-kept t k past one i) (released k i + task.rel_deadline) (now past))
      ∙ ap (λ b. if nat_le (deadline_of g t k past) (now past) then Some (record { tick = deadline_of g t k past; missed = b }) else None) (missed-is g t k past one)

  mark-read : (k : ℕ) → 1 ≤ k → marks_by task (times_at t past) (now past) k ≡ job_marks g t past k
  mark-read k one = λ i. record {
    job = k;
    release = if nat_le (released k i) (now past) then Some (released k i) else None;
    deadline = due-read k one i;
    end = end-kept t k past one i;
  }

  pub marks-read : all_marks_by task (times_at t past) (now past) ≡ map (job_marks g t past) (numbers_from 1 (listed g t past))
  marks-read =
      ap (λ n. map (marks_by task (times_at t past) (now past)) (numbers_from 1 (listed_in task (arrivals t past) n (now past)))) (ends-counted t past)
      ∙ ap (λ n. map (marks_by task (times_at t past) (now past)) (numbers_from 1 n)) (sym (rows_are_kept.listed g t past))
      ∙ map-same (marks_by task (times_at t past) (now past)) (job_marks g t past) 1 (listed g t past) (λ k low high. mark-read k low)

module _ (g : Group) (past : Past) (t : ℕ) (v : JobTimes) (task : Task) (clock : ℕ) (is : IsTimesOf g past t v task clock) where
  limits : IsTaskInLimits (t - 1 + 1) (length g.setup.clusters) task
  unfolding groups.task
  limits = subst (IsTaskInLimits (t - 1 + 1) (length g.setup.clusters)) (sym is.task_is) ((sets_are_in_limits g.setup is.valid).tasks_in (t - 1) (omega (arith, is.from_one, is.within)))

  pub task-within : task.number.0 < length v.tasks.items
  task-within = omega (arith, limits.number_is, is.there, is.from_one)

  module _ (x : TaskTimes) (here : x ≡ get_or v.tasks.items task.number.0 x) where
    times-kept : times_of x ≡ times_at t past
    times-kept =
        let number : task.number.0 ≡ t = omega (arith, limits.number_is, is.from_one) in
        ap times_of here ∙ sym (times_in-at v.tasks.items task.number.0 x task-within) ∙ is.kept task.number.0 task-within ∙ ap (λ n. times_at n past) number

    pub task-early : IsEarly task x.arrivals.items
    task-early = record { phase_low = limits.phase_low; period_low = limits.period_low; deadline_low = limits.deadline_low; arrivals_low = x.arrivals_in_time }

    pub ends-few : length x.ends.items ≤ MOST_STEPS
    ends-few = omega (arith, ap (λ (y : Times). length y.ends) times-kept, ends-counted t past, done-few t past, is.few)

    pub marks-are : all_marks_by task (times_of x) clock ≡ map (job_marks g t past) (numbers_from 1 (listed g t past))
    marks-are =
        (λ i. all_marks_by task (times-kept i) (is.clock_is i)) ∙ ap (λ (k : Task). all_marks_by k (times_at t past) (now past)) is.task_is ∙ marks-read g t past
