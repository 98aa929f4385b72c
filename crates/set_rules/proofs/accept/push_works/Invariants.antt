use Rattle.std.proofs.Common.{◌≡◌, ◌++◌}
use Rattle.std.specs.Prelude.{replicate}
use Rattle.rt_task.specs.declared.Op.TheVariants.{Work}
use Rattle.set_rules.proofs.accept.push_works.Given as goal

abbrev pub invariant-loop-i : goal.invariant-loop-i
invariant-loop-i l = l.ops.items ≡ l.fn.ops.items ++ replicate l._i Work
