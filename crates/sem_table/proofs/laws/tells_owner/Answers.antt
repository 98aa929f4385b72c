use Rattle.sem_table.proofs.Owner as law
use Rattle.sem_table.proofs.laws.tells_owner.Goals as goal

pub returns : goal.returns
returns c = law.tells_owner
