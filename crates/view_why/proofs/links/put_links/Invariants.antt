use Rattle.std.proofs.Common.{◌≡◌, ◌++◌, drop}
use Rattle.trace_lines.specs.Lines.{links_of}
use Rattle.why_lines.specs.GroupSets.{group_in}
use Rattle.view_why.specs.inside.LinkLines.{lines_of}
use Rattle.view_why.proofs.links.put_links.Given as goal

-- what was written, and then the lines of the rest, are those of all
abbrev pub invariant-loop-link : goal.invariant-loop-link
invariant-loop-link l = l.out.items ++ lines_of (group_in l.set) (links_of (drop l.link-index l.links)) ≡ l.fn.out.items ++ lines_of (group_in l.set) (links_of l.links)
