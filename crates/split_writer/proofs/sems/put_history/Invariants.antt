use Rattle.std.proofs.Common.{◌≡◌, ◌++◌, drop}
use Rattle.split_text.specs.SplitText.{sem_lines}
use Rattle.split_writer.specs.inside.Texts.{texts}
use Rattle.trace_lines.specs.Known.{known_in}
use Rattle.split_writer.proofs.sems.put_history.Given as goal

-- what was written, and then the lines of the other entries, are the lines of all
abbrev pub invariant-loop-i : goal.invariant-loop-i
invariant-loop-i l =
    l.out.items ++ texts (sem_lines (known_in l.format) l.i (drop l.i l.entries)) ≡ l.fn.out.items ++ texts (sem_lines (known_in l.format) 0 l.entries)
