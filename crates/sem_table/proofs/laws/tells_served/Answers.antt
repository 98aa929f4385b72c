use Rattle.sem_table.proofs.ServedNext as law
use Rattle.sem_table.proofs.laws.tells_served.Goals as goal

pub returns : goal.returns
returns c = law.tells_served
