use Rattle.sem_table.proofs.Rows as law
use Rattle.sem_table.proofs.laws.quiet_rows.Goals as goal

pub returns : goal.returns
returns c = law.quiet_rows
