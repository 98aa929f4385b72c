use Rattle.sem_table.proofs.Waiters as law
use Rattle.sem_table.proofs.laws.waiters_are_few.Goals as goal

pub returns : goal.returns
returns c = law.waiters_are_few
