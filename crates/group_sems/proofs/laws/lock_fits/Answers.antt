use Rattle.group_sems.proofs.Fitting as law
use Rattle.group_sems.proofs.laws.lock_fits.Goals as goal

pub returns : goal.returns
returns c = law.lock_fits
