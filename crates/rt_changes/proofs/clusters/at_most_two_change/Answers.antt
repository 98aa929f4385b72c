use Rattle.rt_changes.proofs.rankings.ServedClients as laws
use Rattle.rt_changes.proofs.clusters.at_most_two_change.Goals as goal

pub returns : goal.returns
returns c = laws.at_most_two_change
