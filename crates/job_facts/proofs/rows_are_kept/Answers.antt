use Rattle.job_facts.proofs.Rows as laws
use Rattle.job_facts.proofs.rows_are_kept.Goals as goal

pub returns : goal.returns
returns c = laws.rows_are_kept
