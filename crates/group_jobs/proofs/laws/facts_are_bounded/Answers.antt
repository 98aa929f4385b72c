use Rattle.group_jobs.proofs.FactBounds as laws
use Rattle.group_jobs.proofs.laws.facts_are_bounded.Goals as goal

pub returns : goal.returns
returns c = laws.facts_are_bounded
