use Rattle.rt_changes.proofs.rankings.ClientHomes as laws
use Rattle.rt_changes.proofs.clusters.clients_share_home.Goals as goal

pub returns : goal.returns
returns c = laws.clients_share_home
