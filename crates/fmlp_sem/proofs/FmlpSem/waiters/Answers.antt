use Rattle.std.proofs.Common.{◌≤◌, length, arith}
use Rattle.rt_base.specs.TaskNos.{numbers}
use Rattle.rt_rules.proofs.DistinctLaws.{length-few}
use Rattle.sem_laws.proofs.TaskNumbers.{length-numbers}
use Rattle.fmlp_sem.proofs.FmlpSem.waiters.Goals as goal

pub overflow_cast-result : goal.overflow_cast-result
overflow_cast-result c =
    let few : length (numbers c.self.inside.line.items) ≤ c.self.inside.room = length-few _ _ c.self.invariant.once c.self.invariant.below in
    omega (arith, length-numbers c.self.inside.line.items, c.self.invariant.limit)
