use Rattle.std.proofs.Common.{◌≡◌, ◌++◌, length}
use Rattle.std.specs.Prelude.{option_map}
use Rattle.trace_lines.specs.Lines.{links_of}
use Rattle.trace_read.specs.Reading as reading
use Rattle.trace_read.proofs.links.links_in.Given as goal

-- the links so far, and those of what is left, are the links of the text
abbrev pub invariant-loop-rest : goal.invariant-loop-rest
invariant-loop-rest l = option_map (λ xs. links_of l.links.items ++ xs) (reading.links_in l.k (reading.front l.rest)) ≡ reading.links_in l.k (reading.front l.fn.text)

abbrev pub decreases-loop-rest : goal.decreases-loop-rest
decreases-loop-rest l = length (reading.front l.rest)
