use Rattle.view_laws.proofs.Sets as laws
use Rattle.view_laws.proofs.set_totals_are_counts.Goals as goal

pub returns : goal.returns
returns c = laws.set_totals_are_counts
