use Rattle.group_jobs.proofs.TimerMoves as laws
use Rattle.group_jobs.proofs.laws.timers_after_clock.Goals as goal

pub returns : goal.returns
returns c = laws.timers_after_clock
