use Rattle.group_jobs.proofs.DueSets as laws
use Rattle.group_jobs.proofs.laws.set_after_due.Goals as goal

pub returns : goal.returns
returns c = laws.set_after_due
