use Rattle.std.proofs.Common.{◌≡◌, ◌+◌, drop}
use Rattle.explain_command.specs.Lines as spec
use Rattle.explain_command.proofs.lines.line_length.Given as goal

abbrev pub invariant-loop-i : goal.invariant-loop-i
invariant-loop-i l = l.i + spec.line_length (drop l.i l.bytes) ≡ spec.line_length l.bytes
