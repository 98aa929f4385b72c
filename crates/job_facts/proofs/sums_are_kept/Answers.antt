use Rattle.job_facts.proofs.RowSums as laws
use Rattle.job_facts.proofs.sums_are_kept.Goals as goal

pub returns : goal.returns
returns c = laws.sums_are_kept
