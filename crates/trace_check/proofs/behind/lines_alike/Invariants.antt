use Rattle.std.proofs.Common.{◌≡◌, ◌+◌, ◌≤◌, drop}
use Rattle.trace_check.specs.LinesAlike.{lines_alike}
use Rattle.trace_check.proofs.behind.lines_alike.Given as goal

-- the lines so far, and those of the rest
abbrev pub invariant-loop-i : goal.invariant-loop-i
invariant-loop-i l = (l.count ≤ l.i) × (l.count + lines_alike (drop l.i l.a) (drop l.i l.b) ≡ lines_alike l.a l.b)
