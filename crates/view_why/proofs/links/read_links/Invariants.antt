use Rattle.std.proofs.Common.{◌≡◌, ◌++◌, drop}
use Rattle.rt_model.specs.Past.{Past}
use Rattle.rank_afresh.specs.Standing as ranker
use Rattle.trace_lines.specs.Lines.{links_of}
use Rattle.trace_text.specs.Groups.{cpu_numbers}
use Rattle.trace_text.specs.TraceText.{links_at}
use Rattle.view_why.proofs.links.read_links.Given as goal

-- what was put, and then the links of the rest, are all of them
abbrev pub invariant-loop-cpu : goal.invariant-loop-cpu
invariant-loop-cpu l = (past : Past) → ranker.IsAt l.afresh past → links_of l.links.items ++ links_at (ranker.group_of l.afresh) past (cpu_numbers (drop l.cpu-index l.cpus)) ≡ links_at (ranker.group_of l.afresh) past (cpu_numbers l.cpus)
