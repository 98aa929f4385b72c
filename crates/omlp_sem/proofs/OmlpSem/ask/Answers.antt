use Rattle.std.proofs.Common.{◌≡◌, ◌≢◌, ℕ, ◌<◌, ◌++◌, true, false, length, arith, length-set}
use Rattle.std.specs.Prelude.{Some}
use Rattle.rt_base.specs.TaskNos.{numbers}
use Rattle.rt_rules.specs.KeyOrder.{equal_keys}
use Rattle.rt_rules.specs.Numbers.{has, first, rest}
use Rattle.sem_laws.specs.KeptKeys.{key_at}
use Rattle.sem_laws.proofs.TaskNumbers.{numbers-push, length-numbers}
use Rattle.omlp_sem.proofs.ListLaws.{outside_both, queue_waits, position_in, omlp-fifo, omlp-queue}
use Rattle.omlp_sem.proofs.OmlpSem.ask.Goals as goal

pub note-requires-clause-outside : goal.note-requires-clause-outside
note-requires-clause-outside c =
    let hands : first (numbers c.self.inside.fifo.items) ≢ Some c.args.task.0 = rw (← c.self.view_is) at c.requires.free_hands in
    let waits : has c.args.task.0 (rest (numbers c.self.inside.fifo.items) ++ c.self.inside.queue.waiting) ≡ false = rw (← c.self.view_is) at c.requires.outside in
    (outside_both c.args.task.0 (numbers c.self.inside.fifo.items) c.self.inside.queue.waiting hands waits).1

pub push-requires-clause-outside : goal.push-requires-clause-outside
push-requires-clause-outside c =
    let hands : first (numbers c.self.inside.fifo.items) ≢ Some c.args.task.0 = rw (← c.self.view_is) at c.requires.free_hands in
    let waits : has c.args.task.0 (rest (numbers c.self.inside.fifo.items) ++ c.self.inside.queue.waiting) ≡ false = rw (← c.self.view_is) at c.requires.outside in
    (outside_both c.args.task.0 (numbers c.self.inside.fifo.items) c.self.inside.queue.waiting hands waits).1

pub push-requires-clause-apart : goal.push-requires-clause-apart
push-requires-clause-apart c =
    let apart : (t : ℕ) → has t (rest (numbers c.self.inside.fifo.items) ++ c.self.inside.queue.waiting) ≡ true → equal_keys (key_at c.self.inside.queue.keys t) c.args.key ≡ false = rw (← c.self.view_is) at c.requires.apart in
    λ t h. apart t (queue_waits t (numbers c.self.inside.fifo.items) c.self.inside.queue.waiting h)

pub push_back_reserved-requires : goal.push_back_reserved-requires
push_back_reserved-requires c =
    let hands : first (numbers c.self.inside.fifo.items) ≢ Some c.args.task.0 = rw (← c.self.view_is) at c.requires.free_hands in
    let waits : has c.args.task.0 (rest (numbers c.self.inside.fifo.items) ++ c.self.inside.queue.waiting) ≡ false = rw (← c.self.view_is) at c.requires.outside in
    let below : c.args.task.0 < length c.self.inside.queue.keys = rw (← c.self.view_is) at c.requires.below in
    let short : length (numbers c.self.inside.fifo.items) < c.self.inside.cap = omega (arith, length-numbers c.self.inside.fifo.items) in
    let position = position_in _ _ _ _ _ c.self.invariant c.args.task.0 below (outside_both c.args.task.0 (numbers c.self.inside.fifo.items) c.self.inside.queue.waiting hands waits).0 short in
    omega (arith, position, length-numbers c.self.inside.fifo.items)

pub invariant_of-self : goal.invariant_of-self
invariant_of-self c =
    let hands : first (numbers c.self.inside.fifo.items) ≢ Some c.args.task.0 = rw (← c.self.view_is) at c.requires.free_hands in
    let waits : has c.args.task.0 (rest (numbers c.self.inside.fifo.items) ++ c.self.inside.queue.waiting) ≡ false = rw (← c.self.view_is) at c.requires.outside in
    let below : c.args.task.0 < length c.self.inside.queue.keys = rw (← c.self.view_is) at c.requires.below in
    let short : length (numbers c.self.inside.fifo.items) < c.self.inside.cap = omega (arith, length-numbers c.self.inside.fifo.items) in
    let out = outside_both c.args.task.0 (numbers c.self.inside.fifo.items) c.self.inside.queue.waiting hands waits in
    rw (c.note.ensures, length-set, c.push_back_reserved.ensures.items, numbers-push, c.push_back_reserved.ensures.capacity) (omlp-fifo _ _ _ _ _ c.self.invariant c.args.task.0 below out.0 out.1 short)

pub invariant_of-self-else-len-self : goal.invariant_of-self-else-len-self
invariant_of-self-else-len-self c =
    let hands : first (numbers c.self.inside.fifo.items) ≢ Some c.args.task.0 = rw (← c.self.view_is) at c.requires.free_hands in
    let waits : has c.args.task.0 (rest (numbers c.self.inside.fifo.items) ++ c.self.inside.queue.waiting) ≡ false = rw (← c.self.view_is) at c.requires.outside in
    let below : c.args.task.0 < length c.self.inside.queue.keys = rw (← c.self.view_is) at c.requires.below in
    let out = outside_both c.args.task.0 (numbers c.self.inside.fifo.items) c.self.inside.queue.waiting hands waits in
    rw (c.push.ensures, length-set) (omlp-queue _ _ _ _ _ c.self.invariant c.args.task.0 below out.0 out.1)
