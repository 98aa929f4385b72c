use Rattle.trace_laws.proofs.ReadBack.{trace-is-not-refused}
use Rattle.trace_laws.proofs.trace_is_not_refused.Goals as goal

pub returns : goal.returns
returns c = trace-is-not-refused
