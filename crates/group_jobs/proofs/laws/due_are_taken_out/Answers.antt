use Rattle.group_jobs.proofs.TimerSets as laws
use Rattle.group_jobs.proofs.laws.due_are_taken_out.Goals as goal

pub returns : goal.returns
returns c = laws.due_are_taken_out
