use Rattle.group_jobs.proofs.TimerSets as laws
use Rattle.group_jobs.proofs.laws.due_one_by_one.Goals as goal

pub returns : goal.returns
returns c = laws.due_one_by_one
