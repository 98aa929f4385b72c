use Rattle.std.proofs.Common.{◌≡◌, ◌++◌, map, drop, decimal}
use Rattle.trace_lines.specs.Words.{further}
use Rattle.trace_lines.proofs.put.put_next_numbers.Given as goal

-- what was written, and then the rest of the numbers, are all the numbers
abbrev pub invariant-loop-n : goal.invariant-loop-n
invariant-loop-n l = l.out.items ++ further 32 (map decimal (drop l.n-index l.numbers)) ≡ l.fn.out.items ++ further 32 (map decimal l.numbers)
