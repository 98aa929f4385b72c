use Rattle.chart_cells.proofs.KeptCells.{kept_cells_follow_lem}
use Rattle.chart_cells.proofs.kept_cells_follow.Goals as goal

pub returns : goal.returns
returns c = kept_cells_follow_lem
