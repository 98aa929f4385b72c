use Rattle.std.proofs.Common.{◌≡◌, ◌++◌, drop}
use Rattle.rt_base.specs.TaskNos.{numbers_of_tasks}
use Rattle.split_writer.specs.inside.Texts.{lines_with, texts}
use Rattle.trace_lines.specs.Known.{known_in}
use Rattle.split_writer.proofs.parts.put_entries.Given as goal

-- what was written, and then the lines of the other entries, are the lines of all
abbrev pub invariant-loop-i : goal.invariant-loop-i
invariant-loop-i l =
    l.out.items ++ texts (lines_with (known_in l.format) l.i (numbers_of_tasks (drop l.i l.links)) (drop l.i l.entries))
    ≡ l.fn.out.items ++ texts (lines_with (known_in l.format) 0 (numbers_of_tasks l.links) l.entries)
