-- The text of the table of jobs: groups by number, in each the tasks by number, in each the jobs by number.
use Rattle.std.specs.Prelude.{ℕ, List, [], ◌∷◌, ◌++◌, flat_map, codes, decimal}
use Rattle.rt_task.specs.declared.Parts.{Parts}
use Rattle.rt_rules.specs.declared.history.Entry.{Entry}
use Rattle.rt_model.specs.Group.{Group, task}
use Rattle.rt_model.specs.Past.{Past}
use Rattle.trace_views.specs.JobRows.{JobRow, job_rows}
use Rattle.trace_views.specs.JobTimes.{Outcome}
use Rattle.trace_views.specs.JobTimes as times
use Rattle.table_texts.specs.Fields.{Field, integer_or_none, line_of, number_or_none, of_groups}

abbrev pub job_columns : List ℕ
job_columns =
    codes "task,job,release,deadline,start,finish,end,outcome,units,response,lateness,preemptions,migrations,moves,requests,queued," ++
    (codes "ends,ends_all" ++ 10 ∷ [])

-- a job that has not ended and is not late yet is open
abbrev pub outcome_word : Outcome → Field
outcome_word times.kept = codes "kept"
outcome_word times.late = codes "late"
outcome_word times.missed = codes "missed"
outcome_word times.under_way = codes "open"

abbrev pub job_fields : Group → JobRow → List Field
job_fields g r =
    (task g r.task).name ∷
    decimal r.job ∷
    decimal r.release ∷
    decimal r.deadline ∷
    number_or_none r.start ∷
    number_or_none r.finish ∷
    number_or_none r.end ∷
    outcome_word r.outcome ∷
    decimal r.units ∷
    integer_or_none r.response ∷
    integer_or_none r.lateness ∷
    decimal r.preemptions ∷
    decimal r.migrations ∷
    decimal r.moves ∷
    decimal r.requests ∷
    decimal r.queued ∷
    decimal r.ends ∷
    decimal r.ends_all ∷
    []

abbrev pub group_jobs : Group → Past → List ℕ
group_jobs g past = flat_map (λ (r : JobRow). line_of (job_fields g r)) (job_rows g past)

unfoldable pub jobs_text : Parts → List (List Entry) → List ℕ
jobs_text p hs = job_columns ++ of_groups group_jobs p 0 hs
