use Rattle.std.proofs.Common.{◌≡◌, take}
use Rattle.std.specs.Prelude.{flat_map}
use Rattle.rt_task.specs.Draft as spec
use Rattle.set_rules.proofs.accept.operations_of.Given as goal

abbrev pub invariant-loop-piece : goal.invariant-loop-piece
invariant-loop-piece l = l.ops.items ≡ flat_map spec.operations (take l.piece-index l.pieces)
