use Rattle.sem_table.proofs.Keeps as law
use Rattle.sem_table.proofs.laws.ask_keeps.Goals as goal

pub returns : goal.returns
returns c = law.ask_keeps
