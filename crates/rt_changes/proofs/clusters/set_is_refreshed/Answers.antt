use Rattle.ready_queue.proofs.ReadySets as laws
use Rattle.rt_changes.proofs.clusters.set_is_refreshed.Goals as goal

pub returns : goal.returns
returns c = laws.set_is_refreshed
