use Rattle.sem_table.proofs.Conditions as law
use Rattle.sem_table.proofs.laws.release_fits.Goals as goal

pub returns : goal.returns
returns c = law.release_fits
