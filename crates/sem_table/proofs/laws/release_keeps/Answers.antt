use Rattle.sem_table.proofs.Keeps as law
use Rattle.sem_table.proofs.laws.release_keeps.Goals as goal

pub returns : goal.returns
returns c = law.release_keeps
