use Rattle.sem_table.proofs.Waiters as law
use Rattle.sem_table.proofs.laws.tells_waiters.Goals as goal

pub returns : goal.returns
returns c = law.tells_waiters
