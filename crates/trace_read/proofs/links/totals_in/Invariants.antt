use Rattle.std.proofs.Common.{◌≡◌, ◌++◌, length}
use Rattle.std.specs.Prelude.{option_map}
use Rattle.trace_read.specs.Reading as reading
use Rattle.trace_read.proofs.links.totals_in.Given as goal

-- the totals so far, and those of what is left, are the totals of the text
abbrev pub invariant-loop-rest : goal.invariant-loop-rest
invariant-loop-rest l = option_map (λ xs. l.totals.items ++ xs) (reading.totals_in (reading.front l.rest)) ≡ reading.totals_in (reading.front l.fn.text)

abbrev pub decreases-loop-rest : goal.decreases-loop-rest
decreases-loop-rest l = length (reading.front l.rest)
