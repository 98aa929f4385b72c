use Rattle.rt_changes.proofs.rankings.FirstClients as laws
use Rattle.rt_changes.proofs.clusters.front_is_first.Goals as goal

pub returns : goal.returns
returns c = laws.front_is_first
