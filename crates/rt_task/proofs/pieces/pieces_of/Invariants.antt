use Rattle.std.proofs.Common.{◌≡◌, reverse, drop}
use Rattle.rt_task.specs.Draft as spec
use Rattle.rt_task.proofs.pieces.pieces_of.Given as goal

-- the pieces so far are those of the operations from i on
abbrev pub invariant-loop-i : goal.invariant-loop-i
invariant-loop-i l = reverse l.pieces.items ≡ spec.runs (drop l.i l.ops)
