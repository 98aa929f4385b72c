use Rattle.chart_cells.proofs.FirstUnits.{first_units_are_kept_lem}
use Rattle.chart_cells.proofs.first_units_are_kept.Goals as goal

pub returns : goal.returns
returns c = first_units_are_kept_lem
