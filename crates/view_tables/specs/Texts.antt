-- The texts of both tables.
use Rattle.std.specs.Prelude.{ℕ, ◌==◌, Bool, List, flat_map, slice_index_or}
use Rattle.rt_task.specs.declared.Parts.{Parts}
use Rattle.rt_task.specs.declared.Task.{Task}
use Rattle.rt_rules.specs.declared.history.Entry.{Entry}
use Rattle.rt_model.specs.Group.{Group, no_cluster}
use Rattle.rt_model.specs.Past.{Past}
use Rattle.trace_views.specs.JobRows.{JobRow, rows_of}
use Rattle.trace_views.specs.TaskRows.{task_row}
use Rattle.table_texts.specs.Fields.{line_of}
use Rattle.table_texts.specs.JobText.{group_jobs, job_columns, job_fields, jobs_text}
use Rattle.table_texts.specs.TaskText.{group_tasks, task_columns, task_fields, tasks_text}
use Rattle.view_tables.specs.declared.tables.Table.{Table}
use Rattle.view_tables.specs.declared.tables.Table.TheVariants.{Jobs, Tasks}

-- the text of a table of a setup and the histories of its groups
abbrev pub table_text : Table → Parts → List (List Entry) → List ℕ
table_text Jobs p hs = jobs_text p hs
table_text Tasks p hs = tasks_text p hs

-- its parts: the names of the columns, the lines of a group, and those of a task
abbrev pub columns : Table → List ℕ
columns Jobs = job_columns
columns Tasks = task_columns

abbrev pub group_text : Table → Group → Past → List ℕ
group_text Jobs g past = group_jobs g past
group_text Tasks g past = group_tasks g past

abbrev pub task_text : Table → Group → Past → ℕ → List ℕ
task_text Jobs g past t = flat_map (λ (r : JobRow). line_of (job_fields g r)) (rows_of g t past)
task_text Tasks g past t = line_of (task_fields g (task_row g past t))

-- a task is of the group with this number
abbrev pub is_of : ℕ → Parts → Task → Bool
is_of n p t = (slice_index_or p.clusters t.cluster.0 no_cluster).group.0 == n
