use Rattle.group_jobs.proofs.DueSets as laws
use Rattle.group_jobs.proofs.laws.reservations_after_due.Goals as goal

pub returns : goal.returns
returns c = laws.reservations_after_due
