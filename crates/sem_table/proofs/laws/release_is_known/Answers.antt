use Rattle.sem_table.proofs.Waits as law
use Rattle.sem_table.proofs.laws.release_is_known.Goals as goal

pub returns : goal.returns
returns c = law.release_is_known
