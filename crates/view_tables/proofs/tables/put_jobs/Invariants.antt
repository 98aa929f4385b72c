use Rattle.std.proofs.Common.{◌≡◌, ◌++◌, map}
use Rattle.std.specs.Prelude.{flat_map}
use Rattle.rt_rules.specs.Numbers.{numbers_from}
use Rattle.rt_model.specs.Past.{Past}
use Rattle.trace_views.specs.JobRows.{JobRow, job_row}
use Rattle.table_texts.specs.Fields.{line_of}
use Rattle.table_texts.specs.JobText.{job_fields}
use Rattle.view_tables.specs.inside.Playing.{HasTask, IsPlayed, group_of}
use Rattle.view_tables.proofs.tables.put_jobs.Given as goal

-- the lines of the jobs so far
abbrev pub invariant-loop-i : goal.invariant-loop-i
invariant-loop-i l = (past : Past) → IsPlayed past l.played → HasTask l.played l.task
    → l.text.items ≡ l.initial.text.items ++ flat_map (λ (r : JobRow). line_of (job_fields (group_of l.played) r)) (map (job_row (group_of l.played) l.task.number.0 past) (numbers_from 1 l.i))
