use Rattle.key_queue.proofs.RingLaws.{ring_tasks-ring, ring-empty}
use Rattle.key_queue.proofs.line.TaskLine.new.Goals as goal

pub invariant_of-result : goal.invariant_of-result
invariant_of-result c = rw (c.in_ok-empty_ring.ensures, c.in_ok-empty_ring-2.ensures, ring_tasks-ring _ _ _ _ (ring-empty c.args.room)) (ring-empty c.args.room)

pub returns : goal.returns
returns c = rw (c.in_ok-empty_ring.ensures, ring_tasks-ring _ _ _ _ (ring-empty c.args.room))
