use Rattle.rt_changes.proofs.rankings.QuietMoves as laws
use Rattle.rt_changes.proofs.clusters.standing_after_act.Goals as goal

pub returns : goal.returns
returns c = laws.standing_after_act
