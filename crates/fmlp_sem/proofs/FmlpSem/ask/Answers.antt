use Rattle.std.proofs.Common.{◌≡◌, ◌<◌, false, arith}
use Rattle.rt_base.specs.TaskNos.{numbers}
use Rattle.rt_rules.specs.Numbers.{has}
use Rattle.sem_laws.proofs.TaskNumbers.{numbers-push, length-numbers}
use Rattle.fmlp_sem.proofs.LineLaws.{room_for, roomy-push}
use Rattle.fmlp_sem.proofs.FmlpSem.ask.Goals as goal

pub push_back_reserved-requires : goal.push_back_reserved-requires
push_back_reserved-requires c =
    let below : c.args.task.0 < c.self.inside.room = rw (← c.self.view_is) at c.requires.below in
    let outside : has c.args.task.0 (numbers c.self.inside.line.items) ≡ false = rw (← c.self.view_is) at c.requires.outside in
    omega (arith, room_for _ _ _ c.args.task.0 c.self.invariant below outside, length-numbers c.self.inside.line.items)

pub invariant_of-self : goal.invariant_of-self
invariant_of-self c =
    let below : c.args.task.0 < c.self.inside.room = rw (← c.self.view_is) at c.requires.below in
    let outside : has c.args.task.0 (numbers c.self.inside.line.items) ≡ false = rw (← c.self.view_is) at c.requires.outside in
    rw (c.push_back_reserved.ensures.items, numbers-push) (roomy-push _ _ _ c.args.task.0 _ c.self.invariant below outside (omega (arith, c.push_back_reserved.ensures.capacity)))

pub returns-clause-after : goal.returns-clause-after
returns-clause-after c = rw (← c.self.view_is, c.push_back_reserved.ensures.items, numbers-push)
