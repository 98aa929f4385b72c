use Rattle.std.proofs.lemmas.List.{map-set}
use Rattle.release_queue.proofs.ReleaseQueue.arm.Goals as goal

pub returns : goal.returns
returns c = rw (← c.self.view_is, c.put_in.ensures, c.key_of.ensures) (map-set _ _ _ _)
