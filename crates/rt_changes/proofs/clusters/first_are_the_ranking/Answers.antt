use Rattle.ready_queue.proofs.ReadySets as laws
use Rattle.rt_changes.proofs.clusters.first_are_the_ranking.Goals as goal

pub returns : goal.returns
returns c = laws.first_are_the_ranking
