-- The totals of the table of tasks are what the tools count of the entries.
use Rattle.std.specs.Prelude.{◌≡◌, Bool, List, [], count_by, sum_by}
use Rattle.rt_task.specs.Validity.{IsValid}
use Rattle.rt_rules.specs.declared.history.Entry.{Entry}
use Rattle.rt_model.specs.Group.{Group}
use Rattle.rt_model.specs.Histories.{IsLegal, past_of}
use Rattle.trace_text.specs.CountLines.{shown_entries}
use Rattle.trace_tools.specs.Entries.{ends_late, is_work}
use Rattle.trace_tools.specs.declared.shown.Shown.{Shown}
use Rattle.trace_views.specs.TaskRows.{TaskRow, task_rows}

-- an entry is a unit of work, on whatever processor
abbrev pub is_unit : Shown → Bool
is_unit e = is_work e.entry.step.act e.entry.reply

-- the table of tasks of a group after a history
abbrev pub table_of : Group → List Entry → List TaskRow
table_of g es = task_rows g (past_of g es)

-- the late jobs are those that the tool for misses counts, and the units those that the tool for occupancy counts by processor
pub record AgreesWithTools (g : Group) (es : List Entry) : Type 0 where
  pub late : sum_by (λ (r : TaskRow). r.late) (table_of g es) ≡ count_by ends_late (shown_entries g 0 [] es)
  pub units : sum_by (λ (r : TaskRow). r.units) (table_of g es) ≡ count_by is_unit (shown_entries g 0 [] es)

-- After each legal history of a group of a valid set.
abbrev pub TotalsAreCounts : Type 0
TotalsAreCounts = (g : Group) (es : List Entry) → IsValid g.setup → IsLegal g es → AgreesWithTools g es
