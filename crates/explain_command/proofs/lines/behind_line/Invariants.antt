use Rattle.std.proofs.Common.{◌≡◌, drop}
use Rattle.trace_check.specs.LinesAlike as alike
use Rattle.explain_command.proofs.lines.behind_line.Given as goal

abbrev pub invariant-loop-i : goal.invariant-loop-i
invariant-loop-i l = alike.behind_line (drop l.i l.bytes) ≡ alike.behind_line l.bytes
