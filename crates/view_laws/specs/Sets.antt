-- The totals of the tables of all groups of a set, beside what the tools count of a whole trace.
use Rattle.std.specs.Prelude.{◌≡◌, ℕ, ◌+◌, List, [], ◌∷◌, count_by, min, sum_by}
use Rattle.rt_task.specs.Validity.{IsValid}
use Rattle.rt_task.specs.declared.Parts.{Parts}
use Rattle.rt_rules.specs.declared.history.Entry.{Entry}
use Rattle.rt_plays.specs.Plays.{ArePlays, group_with}
use Rattle.trace_text.specs.CountLines.{shown_from}
use Rattle.trace_tools.specs.Entries.{migrations, misses, most}
use Rattle.trace_views.specs.TaskRows.{TaskRow}
use Rattle.view_laws.specs.Totals.{is_unit, table_of}

-- a column of the tables, added up over the groups from a number on, each with its history
abbrev pub total_of : (TaskRow → ℕ) → Parts → ℕ → List (List Entry) → ℕ
total_of column p n [] = 0
total_of column p n (es ∷ hs) = sum_by column (table_of (group_with p n) es) + total_of column p (n + 1) hs

-- the totals of late jobs and of moves are what the tools for misses and for migrations say, and the total of units all accepted Works
pub record SetAgreesWithTools (p : Parts) (hs : List (List Entry)) : Type 0 where
  pub late : misses (shown_from p 0 hs) ≡ min (total_of (λ (r : TaskRow). r.late) p 0 hs) most ∷ []
  pub moves : migrations (shown_from p 0 hs) ≡ min (total_of (λ (r : TaskRow). r.moves) p 0 hs) most ∷ []
  pub units : count_by is_unit (shown_from p 0 hs) ≡ total_of (λ (r : TaskRow). r.units) p 0 hs

-- After plays of all groups of a valid set, whose trace has these entries.
abbrev pub SetTotalsAreCounts : Type 0
SetTotalsAreCounts = (p : Parts) (hs : List (List Entry)) → IsValid p → ArePlays p hs → SetAgreesWithTools p hs
