use Rattle.view_laws.proofs.Totals as laws
use Rattle.view_laws.proofs.totals_are_counts.Goals as goal

pub returns : goal.returns
returns c = laws.totals_are_counts
