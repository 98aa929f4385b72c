use Rattle.trace_views.proofs.Spans as laws
use Rattle.trace_views.proofs.spans_are_side_by_side.Goals as goal

pub returns : goal.returns
returns g c = laws.side_by_side _
