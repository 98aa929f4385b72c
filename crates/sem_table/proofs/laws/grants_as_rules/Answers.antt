use Rattle.sem_table.proofs.Rows as law
use Rattle.sem_table.proofs.laws.grants_as_rules.Goals as goal

pub returns : goal.returns
returns c = law.grants_as_rules
