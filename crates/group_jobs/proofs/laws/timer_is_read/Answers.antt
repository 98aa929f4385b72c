use Rattle.group_jobs.proofs.TimerMoves as laws
use Rattle.group_jobs.proofs.laws.timer_is_read.Goals as goal

pub returns : goal.returns
returns c = laws.timer_is_read
