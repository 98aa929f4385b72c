use Rattle.ready_queue.proofs.Refreshing as laws
use Rattle.rt_changes.proofs.clusters.ranking_is_refreshed.Goals as goal

pub returns : goal.returns
returns c = laws.ranking_is_refreshed
