use Rattle.sem_laws.proofs.TaskNumbers.{numbers-rest}
use Rattle.fmlp_sem.proofs.LineLaws.{roomy-rest}
use Rattle.fmlp_sem.proofs.FmlpSem.release.Goals as goal

pub invariant_of-self : goal.invariant_of-self
invariant_of-self c = rw (c.pop_front.ensures.rest, numbers-rest, c.pop_front.ensures.capacity) (roomy-rest _ _ _ c.self.invariant)
