use Rattle.rt_changes.proofs.rankings.ServedClients as laws
use Rattle.rt_changes.proofs.clusters.eligible_is_served.Goals as goal

pub returns : goal.returns
returns c = laws.eligible_is_served
