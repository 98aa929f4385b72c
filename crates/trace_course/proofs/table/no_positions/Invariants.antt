use Rattle.std.proofs.Common.{◌≡◌, replicate}
use Rattle.std.specs.Prelude.{None}
use Rattle.trace_course.proofs.table.no_positions.Given as goal

abbrev pub invariant-loop : goal.invariant-loop
invariant-loop l = l.positions.items ≡ replicate l.counter None
