-- The moves in the table of tasks are those that the tool for migrations counts.
use Rattle.std.specs.Prelude.{◌≡◌, List, [], sum_by}
use Rattle.rt_task.specs.Validity.{IsValid}
use Rattle.rt_rules.specs.declared.history.Entry.{Entry}
use Rattle.rt_model.specs.Group.{Group}
use Rattle.rt_model.specs.Histories.{IsLegal}
use Rattle.trace_text.specs.CountLines.{shown_entries}
use Rattle.trace_tools.specs.Entries.{moves_after}
use Rattle.trace_views.specs.TaskRows.{TaskRow}
use Rattle.view_laws.specs.Totals.{table_of}

-- After each legal history of a group of a valid set, where the tool is shown the entries of that group.
abbrev pub MovesAreCounted : Type 0
MovesAreCounted = (g : Group) (es : List Entry) → IsValid g.setup → IsLegal g es
    → sum_by (λ (r : TaskRow). r.moves) (table_of g es) ≡ moves_after [] (shown_entries g 0 [] es)
