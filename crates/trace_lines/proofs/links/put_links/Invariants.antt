use Rattle.std.proofs.Common.{◌≡◌, ◌++◌, map, drop}
use Rattle.trace_lines.specs.Words.{further}
use Rattle.trace_lines.specs.Lines.{links_of}
use Rattle.trace_lines.specs.Known.{known_in}
use Rattle.trace_lines.specs.Grammar.{link_word}
use Rattle.trace_lines.proofs.links.put_links.Given as goal

-- what was written, and then the rest of the links, are all the links
abbrev pub invariant-loop-link : goal.invariant-loop-link
invariant-loop-link l = l.out.items ++ further 32 (map (link_word (known_in l.format)) (links_of (drop l.link-index l.links))) ≡ l.fn.out.items ++ further 32 (map (link_word (known_in l.format)) (links_of l.links))
