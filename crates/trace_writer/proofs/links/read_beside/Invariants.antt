use Rattle.std.proofs.Common.{◌≡◌, ◌++◌, drop, take}
use Rattle.rt_plays.specs.Groups.{group_of, past}
use Rattle.trace_lines.specs.Lines.{links_of}
use Rattle.trace_text.specs.Groups.{changed_links, cpus_in}
use Rattle.trace_text.specs.TraceText.{links_at}
use Rattle.trace_writer.proofs.links.read_beside.Given as goal

-- the rest is as it was; what was read, and then what the rest is now, are all of them; and so for those that changed
abbrev pub invariant-loop-i : goal.invariant-loop-i
invariant-loop-i l =
    (drop l.i l.links ≡ drop l.i l.initial.links)
    × (links_of (take l.i l.links) ++ links_at (group_of l.engine) (past l.engine) (cpus_in (drop l.i l.links)) ≡ links_at (group_of l.engine) (past l.engine) (cpus_in l.initial.links))
    × (links_of l.changed.items ++ changed_links (links_of (drop l.i l.links)) (links_at (group_of l.engine) (past l.engine) (cpus_in (drop l.i l.links)))
    ≡ links_of l.initial.changed.items ++ changed_links (links_of l.initial.links) (links_at (group_of l.engine) (past l.engine) (cpus_in l.initial.links)))
