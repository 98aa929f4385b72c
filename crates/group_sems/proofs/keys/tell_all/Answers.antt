use Rattle.group_sems.proofs.TellingLaws.{to-tell-can, to-tell-next}
use Rattle.group_sems.proofs.keys.tell_all.Goals as goal

pub tell-requires : goal.tell-requires
tell-requires c = to-tell-can c.args.owner.0 c.loop-waiter.waiter-index c.args.waiters.now c.args.keys.now c.loop-waiter.keys (record { 0 = 0 }) c.loop-waiter.invariant c.loop-waiter-test.true

pub loop-waiter-preserved : goal.loop-waiter-preserved
loop-waiter-preserved c = rw c.tell.ensures (to-tell-next c.args.owner.0 c.loop-waiter.waiter-index c.args.waiters.now c.args.keys.now c.loop-waiter.keys (record { 0 = 0 }) c.loop-waiter.invariant c.loop-waiter-test.true)
