use Rattle.std.proofs.lemmas.List.{map-set}
use Rattle.release_queue.proofs.ReleaseQueue.cancel.Goals as goal

pub returns-clause-cancelled : goal.returns-clause-cancelled
returns-clause-cancelled c = rw (← c.self.view_is, c.take_out.ensures.removed) (map-set _ _ _ _)
