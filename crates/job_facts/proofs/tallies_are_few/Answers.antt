use Rattle.job_facts.proofs.Few as laws
use Rattle.job_facts.proofs.tallies_are_few.Goals as goal

pub returns : goal.returns
returns c = laws.tallies_are_few
