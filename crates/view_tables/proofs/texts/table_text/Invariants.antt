use Rattle.std.proofs.Common.{◌≡◌, ◌++◌, drop}
use Rattle.table_texts.specs.Fields.{of_groups}
use Rattle.trace_text.specs.Groups.{histories}
use Rattle.view_tables.specs.Texts.{columns, group_text}
use Rattle.view_tables.proofs.texts.table_text.Given as goal

-- the lines of the groups so far
abbrev pub invariant-loop-i : goal.invariant-loop-i
invariant-loop-i l = l.text.items ++ of_groups (group_text l.table) l.setup l.i (histories (drop l.i l.groups)) ≡ columns l.table ++ of_groups (group_text l.table) l.setup 0 (histories l.groups)
