use Rattle.group_jobs.proofs.TimerMoves as laws
use Rattle.group_jobs.proofs.laws.timers_at_opening.Goals as goal

pub returns : goal.returns
returns c = laws.timers_at_opening
