use Rattle.sem_table.proofs.Waits as law
use Rattle.sem_table.proofs.laws.ask_is_known.Goals as goal

pub returns : goal.returns
returns c = law.ask_is_known
