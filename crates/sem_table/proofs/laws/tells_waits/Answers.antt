use Rattle.sem_table.proofs.Waits as law
use Rattle.sem_table.proofs.laws.tells_waits.Goals as goal

pub returns : goal.returns
returns c = law.tells_waits
