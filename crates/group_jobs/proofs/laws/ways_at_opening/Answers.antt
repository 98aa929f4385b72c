use Rattle.group_jobs.proofs.WayMoves as laws
use Rattle.group_jobs.proofs.laws.ways_at_opening.Goals as goal

pub returns : goal.returns
returns c = laws.ways_at_opening
