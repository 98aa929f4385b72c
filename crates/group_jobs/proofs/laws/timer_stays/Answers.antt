use Rattle.group_jobs.proofs.TimerMoves as laws
use Rattle.group_jobs.proofs.laws.timer_stays.Goals as goal

pub returns : goal.returns
returns c = laws.timer_stays
