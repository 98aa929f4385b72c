use Rattle.trace_views.proofs.Spans as laws
use Rattle.trace_views.proofs.spans_are_expanded.Goals as goal

pub returns : goal.returns
returns g c = laws.expanded_spans _
