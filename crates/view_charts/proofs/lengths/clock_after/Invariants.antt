use Rattle.std.proofs.Common.{◌≡◌, drop}
use Rattle.view_charts.proofs.Longest.{greatest}
use Rattle.view_charts.proofs.lengths.clock_after.Given as goal

-- the greatest of the clock so far and the ticks that are left
abbrev pub invariant-loop-entry : goal.invariant-loop-entry
invariant-loop-entry l = greatest l.last.0 (drop l.entry-index l.entries) ≡ greatest l.fn.clock.0 l.entries
