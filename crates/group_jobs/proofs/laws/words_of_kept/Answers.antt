use Rattle.group_jobs.proofs.KeptMoves as laws
use Rattle.group_jobs.proofs.laws.words_of_kept.Goals as goal

pub returns : goal.returns
returns c = laws.words_of_kept
