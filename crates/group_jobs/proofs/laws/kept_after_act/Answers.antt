use Rattle.group_jobs.proofs.KeptMoves as laws
use Rattle.group_jobs.proofs.laws.kept_after_act.Goals as goal

pub returns : goal.returns
returns c = laws.kept_after_act
