use Rattle.sem_table.proofs.SrpSets as law
use Rattle.sem_table.proofs.laws.tells_passing.Goals as goal

pub returns : goal.returns
returns c = law.tells_passing
