use Rattle.mpcp_ceilings.proofs.NotedLaws as laws
use Rattle.mpcp_ceilings.proofs.ceilings_are_told.Goals as goal

pub returns : goal.returns
returns c = laws.ceilings_are_told
