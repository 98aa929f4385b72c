use Rattle.std.proofs.Common.{◌≡◌, ◌++◌, drop}
use Rattle.trace_lines.specs.Lines.{links_of}
use Rattle.trace_text.specs.Groups.{changed_links}
use Rattle.trace_text.proofs.links.put_changed.Given as goal

-- what was put, and then those of the rest that changed, are all that changed
abbrev pub invariant-loop-i : goal.invariant-loop-i
invariant-loop-i l =
    links_of l.changed.items ++ changed_links (links_of (drop l.i l.before)) (links_of (drop l.i l.links))
    ≡ changed_links (links_of l.before) (links_of l.links)
