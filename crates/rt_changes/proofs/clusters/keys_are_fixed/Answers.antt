use Rattle.rt_changes.proofs.rankings.ServedClients as laws
use Rattle.rt_changes.proofs.clusters.keys_are_fixed.Goals as goal

pub returns : goal.returns
returns c = laws.keys_are_fixed
