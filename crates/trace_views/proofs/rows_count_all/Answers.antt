use Rattle.trace_views.proofs.RowSums as laws
use Rattle.trace_views.proofs.rows_count_all.Goals as goal

pub returns : goal.returns
returns c = laws.rows_count_all
