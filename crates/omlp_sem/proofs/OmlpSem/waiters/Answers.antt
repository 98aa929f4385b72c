use Rattle.std.proofs.Common.{arith}
use Rattle.sem_laws.proofs.TaskNumbers.{length-numbers}
use Rattle.omlp_sem.proofs.ListLaws.{few_in}
use Rattle.omlp_sem.proofs.OmlpSem.waiters.Goals as goal

pub overflow_cast-result : goal.overflow_cast-result
overflow_cast-result c = omega (arith, few_in _ _ _ _ _ c.self.invariant, length-numbers c.self.inside.fifo.items, c.self.invariant.limit)

pub overflow_add-result : goal.overflow_add-result
overflow_add-result c = omega (arith, few_in _ _ _ _ _ c.self.invariant, length-numbers c.self.inside.fifo.items, c.self.invariant.limit)
