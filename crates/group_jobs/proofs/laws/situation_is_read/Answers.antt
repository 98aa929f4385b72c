use Rattle.group_jobs.proofs.ReadSituations as laws
use Rattle.group_jobs.proofs.laws.situation_is_read.Goals as goal

pub returns : goal.returns
returns c = laws.situation_is_read
