use Rattle.sem_table.proofs.ServedNext as law
use Rattle.sem_table.proofs.laws.release_rows.Goals as goal

pub returns : goal.returns
returns c = law.release_rows
