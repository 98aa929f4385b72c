use Rattle.std.proofs.Common.{arith}
use Rattle.std.proofs.lemmas.Grind.{common_steps}
use Rattle.set_rules.proofs.rules.spread.unused.Goals as goal

pub loop-i-preserved : goal.loop-i-preserved
loop-i-preserved c = record {
  count = grind (arith, common_steps);
  unused = λ d i e h. grind (arith, common_steps, c.loop-i.invariant.unused d i e);
}
