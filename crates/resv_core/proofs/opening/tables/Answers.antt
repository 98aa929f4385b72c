use Rattle.std.proofs.Common.{length, ap, arith}
use Rattle.rt_task.specs.declared.Parts.{Parts}
use Rattle.resv_core.proofs.ValidResvs.{valid-clusters}
use Rattle.resv_core.proofs.opening.tables.Goals as goal

pub overflow_cast-count : goal.overflow_cast-count
overflow_cast-count c = let few = valid-clusters c.args.setup.now c.parts.ensures.valid in omega (arith, few, ap length c.as_slice.ensures, ap (λ (p : Parts). length p.clusters) c.parts.ensures.parts)
