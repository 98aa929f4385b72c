use Rattle.std.proofs.Common.{◌≡◌, ◌++◌, drop}
use Rattle.rt_plays.specs.Groups.{group_of, past}
use Rattle.trace_lines.specs.Lines.{links_of}
use Rattle.trace_text.specs.TraceText.{links_at}
use Rattle.trace_text.specs.Groups.{cpu_numbers}
use Rattle.trace_writer.proofs.links.read_links.Given as goal

-- what was put, and then the links of the rest, are all of them
abbrev pub invariant-loop-cpu : goal.invariant-loop-cpu
invariant-loop-cpu l = links_of l.links.items ++ links_at (group_of l.engine) (past l.engine) (cpu_numbers (drop l.cpu-index l.cpus)) ≡ links_at (group_of l.engine) (past l.engine) (cpu_numbers l.cpus)
