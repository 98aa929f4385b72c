use Rattle.sem_table.proofs.Conditions as law
use Rattle.sem_table.proofs.laws.tells_state.Goals as goal

pub returns : goal.returns
returns c = law.tells_state
