use Rattle.sem_table.proofs.Rows as law
use Rattle.sem_table.proofs.laws.new_rows.Goals as goal

pub returns : goal.returns
returns c = law.new_rows
