use Rattle.sem_table.proofs.Conditions as law
use Rattle.sem_table.proofs.laws.ask_fits.Goals as goal

pub returns : goal.returns
returns c = law.ask_fits
