use Rattle.ready_heap.proofs.MajorLaws.{majors_in-replicate}
use Rattle.release_queue.proofs.ReleaseQueue.new.Goals as goal

pub returns : goal.returns
returns c = rw c.in_ok-heap.ensures (majors_in-replicate _)
