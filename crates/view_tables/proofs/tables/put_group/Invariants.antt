use Rattle.std.proofs.Common.{◌≡◌, ◌++◌}
use Rattle.rt_model.specs.Past.{Past}
use Rattle.view_tables.specs.inside.Playing.{IsPlayed, group_of}
use Rattle.view_tables.proofs.GroupTexts.{so_far}
use Rattle.view_tables.proofs.tables.put_group.Given as goal

-- the lines of the tasks so far
abbrev pub invariant-loop-task : goal.invariant-loop-task
invariant-loop-task l = (past : Past) → IsPlayed past l.played → l.text.items ≡ l.initial.text.items ++ so_far l.table (group_of l.played) past l.task-index
