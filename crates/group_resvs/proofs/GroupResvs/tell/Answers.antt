use Rattle.std.proofs.Common.{arith}
use Rattle.std.proofs.lemmas.Grind.{common_steps}
use Rattle.group_resvs.proofs.TouchedLaws.{settled_but-also}
use Rattle.group_resvs.proofs.GroupResvs.tell.Goals as goal

pub invariant_of-self : goal.invariant_of-self
invariant_of-self c = grind (arith, common_steps, settled_but-also)

pub invariant_of-self-in-Some-release : goal.invariant_of-self-in-Some-release
invariant_of-self-in-Some-release c = grind (arith, common_steps, settled_but-also)
