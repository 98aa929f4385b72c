use Rattle.rt_changes.proofs.rankings.QuietMoves as laws
use Rattle.rt_changes.proofs.clusters.keys_after_quiet.Goals as goal

pub returns : goal.returns
returns c = laws.keys_after_quiet
