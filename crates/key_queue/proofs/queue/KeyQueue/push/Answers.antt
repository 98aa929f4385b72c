use Rattle.std.proofs.Common.{◌≡◌, ◌<◌, ℕ, true, false, length, arith}
use Rattle.rt_rules.specs.KeyOrder.{equal_keys}
use Rattle.rt_rules.specs.Numbers.{has}
use Rattle.sem_laws.specs.KeptKeys.{key_at}
use Rattle.key_queue.proofs.QueueLaws.{position_for, queue-push}
use Rattle.key_queue.proofs.queue.KeyQueue.push.Goals as goal

pub invariant_of-self : goal.invariant_of-self
invariant_of-self c =
    let below : c.args.task.0 < length c.self.inside.keys.items = rw (← c.self.view_is) at c.requires.below in
    let within : c.args.task.0 < c.self.inside.line.room = omega (arith, c.self.invariant.keys_length) in
    let outside : has c.args.task.0 c.self.inside.line.tasks ≡ false = rw (← c.self.view_is) at c.requires.outside in
    let apart : (t : ℕ) → has t c.self.inside.line.tasks ≡ true → equal_keys (key_at c.self.inside.keys.items t) c.args.key ≡ false = rw (← c.self.view_is) at c.requires.apart in
    rw c.push.ensures (queue-push _ _ _ _ _ _ c.self.invariant c.args.task.0 c.args.key _ _ _ within outside apart c.put.ensures.permutation c.put.ensures.heap_order c.put.ensures.capacity c.put.ensures.len)

pub put-requires : goal.put-requires
put-requires c =
    let below : c.args.task.0 < length c.self.inside.keys.items = rw (← c.self.view_is) at c.requires.below in
    let within : c.args.task.0 < c.self.inside.line.room = omega (arith, c.self.invariant.keys_length) in
    let outside : has c.args.task.0 c.self.inside.line.tasks ≡ false = rw (← c.self.view_is) at c.requires.outside in
    position_for _ _ _ _ _ _ c.self.invariant c.args.task.0 within outside
