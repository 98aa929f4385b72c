use Rattle.std.proofs.Common.{◌≡◌, ◌-◌}
use Rattle.trace_check.specs.LinesAlike as alike
use Rattle.explain_command.proofs.lines.behind_lines.Given as goal

abbrev pub invariant-loop : goal.invariant-loop
invariant-loop l = alike.behind_lines (l.lines - l.counter) l.rest ≡ alike.behind_lines l.lines l.bytes
