use Rattle.group_jobs.proofs.ReadWords as laws
use Rattle.group_jobs.proofs.laws.words_are_read.Goals as goal

pub returns : goal.returns
returns c = laws.words_are_read
