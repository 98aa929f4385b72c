-- The text of the table of tasks: groups by number, in each the tasks by number.
use Rattle.std.specs.Prelude.{ℕ, List, [], ◌∷◌, ◌++◌, flat_map, codes, decimal}
use Rattle.rt_task.specs.declared.Parts.{Parts}
use Rattle.rt_rules.specs.declared.history.Entry.{Entry}
use Rattle.rt_model.specs.Group.{Group, task}
use Rattle.rt_model.specs.Past.{Past}
use Rattle.trace_views.specs.TaskRows.{TaskRow, task_rows}
use Rattle.table_texts.specs.Fields.{Field, integer_or_none, line_of, of_groups}

abbrev pub task_columns : List ℕ
task_columns =
    codes "task,released,ended,late,missed,units,response_max,response_sum,lateness_max,preemptions,migrations,moves,requests,queued," ++
    (codes "ends_max,ends_all_max" ++ 10 ∷ [])

abbrev pub task_fields : Group → TaskRow → List Field
task_fields g r =
    (task g r.task).name ∷
    decimal r.released ∷
    decimal r.ended ∷
    decimal r.late ∷
    decimal r.missed ∷
    decimal r.units ∷
    integer_or_none r.response_max ∷
    integer_or_none r.response_sum ∷
    integer_or_none r.lateness_max ∷
    decimal r.preemptions ∷
    decimal r.migrations ∷
    decimal r.moves ∷
    decimal r.requests ∷
    decimal r.queued ∷
    decimal r.ends_max ∷
    decimal r.ends_all_max ∷
    []

abbrev pub group_tasks : Group → Past → List ℕ
group_tasks g past = flat_map (λ (r : TaskRow). line_of (task_fields g r)) (task_rows g past)

unfoldable pub tasks_text : Parts → List (List Entry) → List ℕ
tasks_text p hs = task_columns ++ of_groups group_tasks p 0 hs
