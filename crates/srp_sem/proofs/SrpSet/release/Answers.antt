use Rattle.std.proofs.Common.{arith}
use Rattle.srp_sem.proofs.Acts.{freed-kept}
use Rattle.srp_sem.proofs.SrpSet.release.Goals as goal

pub invariant_of-self : goal.invariant_of-self
invariant_of-self c = rw c.take_out.ensures.items (freed-kept _ _ _ _ _ c.self.invariant c.take_out.ensures.capacity)

pub returns-clause-one_holder : goal.returns-clause-one_holder
returns-clause-one_holder c = rw c.take_out.ensures.items (freed-kept _ _ _ _ _ c.self.invariant c.take_out.ensures.capacity).one_holder
