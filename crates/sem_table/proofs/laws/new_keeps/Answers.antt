use Rattle.sem_table.proofs.NewRows as law
use Rattle.sem_table.proofs.laws.new_keeps.Goals as goal

pub returns : goal.returns
returns c = law.new_keeps
