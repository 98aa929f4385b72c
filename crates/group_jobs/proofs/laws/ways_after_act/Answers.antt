use Rattle.group_jobs.proofs.WayMoves as laws
use Rattle.group_jobs.proofs.laws.ways_after_act.Goals as goal

pub returns : goal.returns
returns c = laws.ways_after_act
