use Rattle.group_sems.proofs.Fitting as law
use Rattle.group_sems.proofs.laws.unlock_fits.Goals as goal

pub returns : goal.returns
returns c = law.unlock_fits
