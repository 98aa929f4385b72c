use Rattle.group_jobs.proofs.TimerSets as laws
use Rattle.group_jobs.proofs.laws.timers_are_renewed.Goals as goal

pub returns : goal.returns
returns c = laws.timers_are_renewed
